use Rattle.command_words.proofs.Range.{some_events, few_events}
use Rattle.command_words.proofs.a_page_is_made_with_few_events.Goals as goal

pub returns-clause-some : goal.returns-clause-some
returns-clause-some c = some_events

pub returns-clause-few : goal.returns-clause-few
returns-clause-few c = few_events
