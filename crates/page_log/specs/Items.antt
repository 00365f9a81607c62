-- The items of a page's log, as plain data.
use Rattle.std.specs.Prelude.{ℕ, List, [], ◌∷◌, Option, Some, None, map}
use Rattle.page_deeds.specs.Deeds as deed
use Rattle.page_deeds.specs.Shown as show
use Rattle.es3_objects.specs.declared.value.Tag.{Tag}
use Rattle.es3_language.specs.declared.Touch.{Touch}
use Rattle.es3_language.specs.declared.Touch.TheVariants as t
use Rattle.es3_language.specs.Natives.{Touched}
use Rattle.node_deeds.specs.declared.told.Change.{Change}
use Rattle.node_deeds.specs.declared.told.Change.TheVariants as change
use Rattle.rows.specs.Document as doc
use Rattle.rows.specs.Rows as r
use Rattle.heap_rows.specs.Doing as told
use Rattle.heap_rows.specs.Doing.{Told}
use Rattle.page_log.specs.declared.items.Label.{Label}
use Rattle.page_log.specs.declared.items.Label.TheVariants as label
use Rattle.page_log.specs.declared.items.Sort.{Sort}
use Rattle.page_log.specs.declared.items.Sort.TheVariants as sort
use Rattle.page_log.specs.declared.items.Shown.{Shown}
use Rattle.page_log.specs.declared.items.Shown.TheVariants as shown
use Rattle.page_log.specs.declared.items.Ended.{Ended}
use Rattle.page_log.specs.declared.items.Ended.TheVariants as ended
use Rattle.page_log.specs.declared.items.Item.{Item}
use Rattle.page_log.specs.declared.items.Item.TheVariants as item
use Rattle.page_log.specs.declared.names.Names.{Names}
use Rattle.page_log.specs.Log as l

abbrev pub label_of : Label → deed.Label
label_of (label.Load m) = deed.of_load m
label_of (label.Call k m key) = deed.of_call k m key
label_of (label.Tick k m) = deed.of_tick k m
label_of (label.Click k id root) = deed.of_click k id root
label_of (label.Input k id root) = deed.of_input k id root

abbrev pub sort_of : Sort → show.Sort
sort_of sort.Record = show.a_record
sort_of sort.Array = show.an_array
sort_of sort.Function = show.a_function
sort_of sort.Node = show.a_node

abbrev pub shown_of : Shown → show.Shown Tag
shown_of shown.Undefined = show.undefined
shown_of shown.Null = show.null
shown_of (shown.Bool b) = show.truth b
shown_of (shown.Num n) = show.number n
shown_of (shown.Text us) = show.text us
shown_of (shown.Thing s g) = show.thing (sort_of s) g
shown_of (shown.Error g name message) = show.error g name message

abbrev pub end_of : Ended → show.Ended Tag
end_of (ended.Return v) = show.by_return (shown_of v)
end_of (ended.Throw v) = show.by_throw (shown_of v)
end_of ended.Nothing = show.by_nothing

-- how an object is touched, in the words of rows
abbrev pub touch_of : Touch → r.Touch
touch_of t.Get = r.to_get
touch_of t.Set = r.to_set
touch_of t.Delete = r.to_delete
touch_of t.Has = r.to_has
touch_of t.Keys = r.to_keys
touch_of t.Call = r.to_call
touch_of t.New = r.to_new

abbrev pub key_list : Option (List ℕ) → List (List ℕ)
key_list None = []
key_list (Some k) = k ∷ []

-- what a text touches, as the log tells of it
abbrev pub touch_told : Touched → Told
touch_told i = told.touched i.by (touch_of i.what) i.on (key_list i.key)

-- what became of a node, in the words of rows
abbrev pub change_told : Change → Told
change_told (change.Append root k c) = told.changed_node root k (doc.appends c)
change_told (change.Remove root k c) = told.changed_node root k (doc.removes c)
change_told (change.Set root k n v) = told.changed_node root k (doc.sets_attribute n v)
change_told (change.Text root k us) = told.changed_node root k (doc.sets_text us)

abbrev pub told_of : Item → Told
told_of (item.Touched by what on key) = told.touched by (touch_of what) on (key_list key)
told_of (item.Said m us) = told.said m us
told_of (item.Changed c) = change_told c
told_of (item.Ended l e) = told.ended (label_of l) (end_of e)

abbrev pub all_told : List Item → List Told
all_told items = map told_of items

abbrev pub names_of : Names → l.Names
names_of n = record { modules = n.modules.items; cells = n.cells.items; roots = n.roots.items }
