-- What a `for` .. `in` that runs does (ES3 12.6.4).
use Rattle.std.specs.Prelude.{ℕ, List}
use Rattle.es3_language.specs.Store.{Store}
use Rattle.es3_language.specs.References.{Ref}
use Rattle.es3_language.specs.Tasks.{Plan}
use Rattle.es3_language.specs.Statements as st
use Rattle.es3_moves.specs.Code.{names_at, plain_stmt, plain_target}
use Rattle.es3_moves.specs.Where.{plain_env, plain_labels}
use Rattle.es3_moves.specs.declared.frame.Keyed.{Keyed}

-- the keys that are left
abbrev pub keys_of : Keyed → Store → Plan
keys_of w s = st.turn_keys w.object (names_at w.keys.value.items w.at) (plain_target w.target.value) (plain_stmt w.body.value) w.acc (plain_labels w.labels.value) (plain_env w.env) s

-- the body, once a key is written
abbrev pub body_of : Keyed → Store → Plan
body_of w s = st.key_body w.object (names_at w.keys.value.items w.at) (plain_target w.target.value) (plain_stmt w.body.value) w.acc (plain_labels w.labels.value) (plain_env w.env) s

-- a key, and one that is there, and one whose target is known
abbrev pub key_of : List ℕ → Keyed → Store → Plan
key_of k w s = st.key_plan w.object k (names_at w.keys.value.items w.at) (plain_target w.target.value) (plain_stmt w.body.value) w.acc (plain_labels w.labels.value) (plain_env w.env) s

abbrev pub written_of : List ℕ → Keyed → Store → Plan
written_of k w s = st.key_written (plain_target w.target.value) k w.object (names_at w.keys.value.items w.at) (plain_stmt w.body.value) w.acc (plain_labels w.labels.value) (plain_env w.env) s

abbrev pub target_of : List ℕ → Keyed → Ref → Store → Plan
target_of k w r s = st.key_target k w.object (names_at w.keys.value.items w.at) (plain_target w.target.value) (plain_stmt w.body.value) w.acc (plain_labels w.labels.value) (plain_env w.env) r s
