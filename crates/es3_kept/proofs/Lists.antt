-- Statements one after another name live objects alone (ES3 12.1, 14).
use Rattle.std.proofs.Common.{ℕ, Bool, Option, Some, None}
use Rattle.es3_tree.specs.Tree as t
use Rattle.es3_objects.specs.declared.value.Value.{Value}
use Rattle.es3_heap.specs.Objects.{Objects}
use Rattle.es3_language.specs.Store.{Store}
use Rattle.es3_language.specs.Tasks.{Completion, gave, found, normal, broke, continued, returned, threw, Env, Plan}
use Rattle.es3_language.specs.Lists as language
use Rattle.es3_language.specs.Lists.{kept_value, on_each, list}
use Rattle.es3_live.specs.Runs.{IsLiveOrNone, LiveStore, LiveEnding, LiveEnv}
use Rattle.es3_live.proofs.Growth.{none_more}
use Rattle.es3_kept.proofs.Next.{Next, same_store}
use Rattle.es3_kept.proofs.Plans.{LivePlan, Follows}
use Rattle.es3_kept.proofs.Parts.{either}
use Rattle.es3_kept.proofs.Stores.{count}
use Rattle.es3_kept.proofs.Going.{env_later, follows_later}

-- from the value that a statement had, if it had one
abbrev pub GoesOn : Objects → (Option Value → Store → Plan) → Type 0
GoesOn h go = (v : Option Value) (s : Store) → Next h s → IsLiveOrNone (count s) v → LivePlan s.heap (go v s)

pub later_live : (n : ℕ) (a b : Option Value) → IsLiveOrNone n a → IsLiveOrNone n b → IsLiveOrNone n (language.later a b)
later_live n None b l m = m
later_live n (Some v) b l m = l

kept_live : (n : ℕ) (keep : Bool) (acc : Option Value) → IsLiveOrNone n acc → IsLiveOrNone n (kept_value keep acc)
kept_live n keep acc l = either (IsLiveOrNone n) keep acc None l tt

pub on_each_live : (h : Objects) (keep : Bool) (acc : Option Value) (e : Completion) (s : Store) (go : Option Value → Store → Plan) (end : Completion → Store → Plan)
    → Next h s → IsLiveOrNone (count s) acc → LiveEnding (count s) e → GoesOn h go → Follows h end → LivePlan s.heap (on_each keep acc e s go end)
on_each_live h keep acc (normal v) s go end n a b g f = g (language.later v (kept_value keep acc)) s n (later_live (count s) v (kept_value keep acc) b (kept_live (count s) keep acc a))
on_each_live h keep acc (broke l v) s go end n a b g f = f (broke l (language.later v (kept_value keep acc))) s n (later_live (count s) v (kept_value keep acc) b (kept_live (count s) keep acc a))
on_each_live h keep acc (continued l v) s go end n a b g f = f (continued l (language.later v (kept_value keep acc))) s n (later_live (count s) v (kept_value keep acc) b (kept_live (count s) keep acc a))
on_each_live h keep acc (gave v) s go end n a b g f = f (gave v) s n b
on_each_live h keep acc (found r) s go end n a b g f = f (found r) s n b
on_each_live h keep acc (returned v) s go end n a b g f = f (returned v) s n b
on_each_live h keep acc (threw v) s go end n a b g f = f (threw v) s n b

pub list_live : (keep : Bool) (xs : t.Tree t.stmts) (acc : Option Value) (env : Env) (s : Store) (end : Completion → Store → Plan)
    → LiveStore s → IsLiveOrNone (count s) acc → LiveEnv (count s) env → Follows s.heap end → LivePlan s.heap (list keep xs acc env s end)
list_live keep t.no_stmts acc env s end l a w f = f (normal acc) s (same_store s l) a
list_live keep (t.more_stmts x rest) acc env s end l a w f = (
  w,
  same_store s l,
  λ e s' n b.
      on_each_live s.heap keep acc e s' (λ v s''. list keep rest v env s'' end) end n (none_more acc n.later.more a) b
      (λ v s'' m c. list_live keep rest v env s'' end m.store c (env_later env m w) (follows_later end m.later f))
      f,
)
