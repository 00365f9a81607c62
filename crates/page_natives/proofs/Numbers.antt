-- Each callee by its number.
use Rattle.std.proofs.Common.{◌≡◌, ℕ, ◌+◌, ◌*◌, ◌/◌, ◌%◌, ◌-◌, ◌≤◌, false, Some, refl, ap, ◌∙◌, arith}
use Rattle.std.specs.Prelude.{nat_lt}
use Rattle.std.proofs.lemmas.Bool.Decides.{nat_tests}
use Rattle.rows.specs.Rows as r
use Rattle.heap_rows.specs.Natives.{own_number, cell_number}
use Rattle.page_natives.specs.declared.natives.Callee.TheVariants as c
use Rattle.page_natives.specs.Natives.{own_callee, callee_of}
use Rattle.tamed_dom.specs.declared.methods.NodeMethod.TheVariants as m
use Rattle.page_natives.specs.OwnFunctions.{HasItsNumber, BuiltInsDoTheirRows}
use Rattle.page_natives.specs.NodeMethods.{NodeMethodsHaveTheirNumbers}

-- the functions of modules and cells: four numbers for each, behind all others

rest_of : (k i : ℕ) → i ≤ 3 → (4 * k + (128 + i)) % 4 ≡ i
rest_of k i few = omega arith

owner_of : (k i : ℕ) → i ≤ 3 → (4 * k + (128 + i)) / 4 - 32 ≡ k
owner_of k i few = omega arith

own_is : (k i : ℕ) → i ≤ 3 → callee_of (4 * k + (128 + i)) ≡ Some (own_callee i k)
own_is k i few =
    let behind : nat_lt (4 * k + (128 + i)) 128 ≡ false = grind (arith, nat_tests) in
    rw behind (ap (λ j. Some (own_callee j ((4 * k + (128 + i)) / 4 - 32))) (rest_of k i few) ∙ ap (λ j. Some (own_callee i j)) (owner_of k i few))

pub say_has_its_number : (m : ℕ) → HasItsNumber (c.Say m) (own_number m 0)
say_has_its_number m = own_is m 0 (omega arith)

pub later_has_its_number : (m : ℕ) → HasItsNumber (c.Later m) (own_number m 1)
later_has_its_number m = own_is m 1 (omega arith)

pub get_has_its_number : (cell : ℕ) → HasItsNumber (c.Get cell) (cell_number cell 1)
get_has_its_number cell = own_is cell 2 (omega arith)

pub set_has_its_number : (cell : ℕ) → HasItsNumber (c.Set cell) (cell_number cell 2)
set_has_its_number cell = own_is cell 3 (omega arith)

-- the built-in functions

pub built_ins_are_their_rows : BuiltInsDoTheirRows
built_ins_are_their_rows r.freeze common other by this args h z = refl
built_ins_are_their_rows r.is_frozen common other by this args h z = refl
built_ins_are_their_rows r.copy common other by this args h z = refl
built_ins_are_their_rows r.snapshot common other by this args h z = refl
built_ins_are_their_rows r.is_array common other by this args h z = refl
built_ins_are_their_rows r.is_record common other by this args h z = refl
built_ins_are_their_rows r.keys common other by this args h z = refl
built_ins_are_their_rows r.abs common other by this args h z = refl
built_ins_are_their_rows r.floor common other by this args h z = refl
built_ins_are_their_rows r.ceil common other by this args h z = refl
built_ins_are_their_rows r.round common other by this args h z = refl
built_ins_are_their_rows r.max common other by this args h z = refl
built_ins_are_their_rows r.min common other by this args h z = refl
built_ins_are_their_rows r.number_from common other by this args h z = refl
built_ins_are_their_rows r.text_from common other by this args h z = refl
built_ins_are_their_rows r.truth_from common other by this args h z = refl
built_ins_are_their_rows (r.makes r.error) common other by this args h z = refl
built_ins_are_their_rows (r.makes r.type_error) common other by this args h z = refl
built_ins_are_their_rows (r.makes r.range_error) common other by this args h z = refl
built_ins_are_their_rows r.call common other by this args h z = refl
built_ins_are_their_rows r.apply common other by this args h z = refl
built_ins_are_their_rows r.char_at common other by this args h z = refl
built_ins_are_their_rows r.char_code_at common other by this args h z = refl
built_ins_are_their_rows r.index_of common other by this args h z = refl
built_ins_are_their_rows r.last_index_of common other by this args h z = refl
built_ins_are_their_rows r.slice_text common other by this args h z = refl
built_ins_are_their_rows r.substring common other by this args h z = refl
built_ins_are_their_rows r.split common other by this args h z = refl
built_ins_are_their_rows r.concat_text common other by this args h z = refl
built_ins_are_their_rows r.concat common other by this args h z = refl
built_ins_are_their_rows r.join common other by this args h z = refl
built_ins_are_their_rows r.slice common other by this args h z = refl
built_ins_are_their_rows r.push common other by this args h z = refl
built_ins_are_their_rows r.unshift common other by this args h z = refl
built_ins_are_their_rows r.pop common other by this args h z = refl
built_ins_are_their_rows r.shift common other by this args h z = refl
built_ins_are_their_rows r.turn common other by this args h z = refl
built_ins_are_their_rows r.get_tag_name common other by this args h z = absurd (cc)
built_ins_are_their_rows r.get_parent_node common other by this args h z = absurd (cc)
built_ins_are_their_rows r.get_child_nodes common other by this args h z = absurd (cc)
built_ins_are_their_rows r.get_element_by_id common other by this args h z = absurd (cc)
built_ins_are_their_rows r.get_attribute common other by this args h z = absurd (cc)
built_ins_are_their_rows r.set_attribute common other by this args h z = absurd (cc)
built_ins_are_their_rows r.get_text common other by this args h z = absurd (cc)
built_ins_are_their_rows r.set_text common other by this args h z = absurd (cc)
built_ins_are_their_rows r.create_element common other by this args h z = absurd (cc)
built_ins_are_their_rows r.create_text_node common other by this args h z = absurd (cc)
built_ins_are_their_rows r.append_child common other by this args h z = absurd (cc)
built_ins_are_their_rows r.remove_child common other by this args h z = absurd (cc)
built_ins_are_their_rows r.on common other by this args h z = absurd (cc)
built_ins_are_their_rows (r.service k) common other by this args h z = absurd (cc)
built_ins_are_their_rows r.say common other by this args h z = absurd (cc)
built_ins_are_their_rows r.later common other by this args h z = absurd (cc)
built_ins_are_their_rows r.get common other by this args h z = absurd (cc)
built_ins_are_their_rows r.set common other by this args h z = absurd (cc)
built_ins_are_their_rows r.forward_get common other by this args h z = absurd (cc)
built_ins_are_their_rows r.forward_set common other by this args h z = absurd (cc)

-- the methods of nodes

pub node_methods_have_their_numbers : NodeMethodsHaveTheirNumbers
node_methods_have_their_numbers m.GetTagName = refl
node_methods_have_their_numbers m.GetParentNode = refl
node_methods_have_their_numbers m.GetChildNodes = refl
node_methods_have_their_numbers m.GetElementById = refl
node_methods_have_their_numbers m.GetAttribute = refl
node_methods_have_their_numbers m.SetAttribute = refl
node_methods_have_their_numbers m.GetText = refl
node_methods_have_their_numbers m.SetText = refl
node_methods_have_their_numbers m.CreateElement = refl
node_methods_have_their_numbers m.CreateTextNode = refl
node_methods_have_their_numbers m.AppendChild = refl
node_methods_have_their_numbers m.RemoveChild = refl
node_methods_have_their_numbers m.On = refl
