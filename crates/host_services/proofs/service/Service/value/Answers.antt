use Rattle.std.proofs.Common.{rules, map, ◌∙◌}
use Rattle.host_rules.specs.Plain.{plain}
use Rattle.host_services.specs.Services.{place_of}
use Rattle.host_services.specs.View.{rows_of}
use Rattle.host_services.proofs.Rows.{value_here, value_past}
use Rattle.host_services.proofs.service.Service.value.Goals as goal

pub returns-in-Some : goal.returns-in-Some
returns-in-Some g c =
    search (rules, value_here c.args.self.now.rows.items (plain c.args.self.now.other) c.pick.result (place_of (rows_of c.args.self.now.rows.items) (map plain c.args.args.now)) c.in-Some.row.now (c.pick.ensures ∙ c.args.self.now.answers (map plain c.args.args.now)))

pub returns-in-None : goal.returns-in-None
returns-in-None g c =
    search (rules, value_past c.args.self.now.rows.items (plain c.args.self.now.other) c.pick.result (place_of (rows_of c.args.self.now.rows.items) (map plain c.args.args.now)) (c.pick.ensures ∙ c.args.self.now.answers (map plain c.args.args.now)))
