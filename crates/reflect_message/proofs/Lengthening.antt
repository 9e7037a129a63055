-- Lists that values are put behind.
use Rattle.std.proofs.Common.{◌≡◌, List, [], ◌++◌, Option, None, Some, Result, Ok, Err, sym, ap, ◌∙◌, subst, unwrap_or, OnOk, IfSome}
use Rattle.reflect_message.specs.Lists.{items_held, list_items, Lengthens}
use Rattle.reflect_message.specs.Names.{Value}

-- where a list is made if nothing stood there, it has the values that stood there
pub items_of_slot : (held : Option Value) (empty slot : Value) → slot ≡ unwrap_or held empty → items_held (Some empty) ≡ Some [] → items_held (Some slot) ≡ items_held held
items_of_slot None empty slot is none = ap (λ v. items_held (Some v)) is ∙ none
items_of_slot (Some v) empty slot is none = ap (λ v. items_held (Some v)) is

-- the values stand behind those of the list in its slot
pub lengthens_slot : {A E : Type 0} (old new : Option Value) (slot filled : Value) (same : items_held (Some slot) ≡ items_held old) (put : new ≡ Some filled) (r : Result A E) (added : List Value)
    → OnOk r (IfSome (list_items slot) (λ before. list_items filled ≡ Some (before ++ added))) → OnOk r (Lengthens old new added)
lengthens_slot old new slot filled same put (Ok x) added h =
    let there : IfSome (items_held (Some slot)) (λ before. items_held new ≡ Some (before ++ added)) = subst (λ v. IfSome (list_items slot) (λ before. items_held v ≡ Some (before ++ added))) (sym put) h in
    subst (λ o. IfSome o (λ before. items_held new ≡ Some (before ++ added))) same there
lengthens_slot old new slot filled same put (Err e) added h = tt
