use Rattle.css_steps.proofs.places.place.Goals as goal

pub returns-in-Selecting : goal.returns-in-Selecting
returns-in-Selecting c = rw c.in-Selecting.is c.at_selector.ensures
