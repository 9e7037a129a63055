use Rattle.std.proofs.Common.{◌≡◌, ℤ, None, Some, map, subst, sym, rules, w32}
use Rattle.std.proofs.lemmas.Int.{to_z-of_z}
use Rattle.reflect_tables.specs.Finding.{IsFirst}
use Rattle.reflect_tables.specs.Types.{EnumType, ValueType}
use Rattle.reflect_tables.specs.Views.{value_of}
use Rattle.reflect_pool.specs.Finds.{FindsValue}
use Rattle.reflect_pool.proofs.enums.EnumDescriptor.get_value.Goals as goal

pub returns-in_err-place-clause-first : goal.returns-in_err-place-clause-first
returns-in_err-place-clause-first c =
    let self = c.args.self.now in
    let has = λ (n : ℤ) (v : ValueType). v.number ≡ n in
    let list = map value_of c.stored.result.now.values.list.items in
    let found : c.of_number.result ≡ None = search rules in
    let none : c.from_residual.result ≡ None = search rules in
    let first = subst (λ n. IsFirst (has n) list c.of_number.result) (to_z-of_z w32 c.args.number c.ranges.number)
    c.of_number.ensures in
    subst (FindsValue (has c.args.number) self) (sym none)
    (subst (λ (e : EnumType). IsFirst (has c.args.number) e.values None) c.stored.ensures.view
    (subst (IsFirst (has c.args.number) list) found first))

pub returns-clause-first : goal.returns-clause-first
returns-clause-first c =
    let has = λ (n : ℤ) (v : ValueType). v.number ≡ n in
    let list = map value_of c.stored.result.now.values.list.items in
    let found : c.of_number.result ≡ Some c.in_ok-place.place = search rules in
    let first = subst (λ n. IsFirst (has n) list c.of_number.result) (to_z-of_z w32 c.args.number c.ranges.number)
    c.of_number.ensures in
    subst (λ (e : EnumType). IsFirst (has c.args.number) e.values (Some c.in_ok-place.place)) c.stored.ensures.view
    (subst (IsFirst (has c.args.number) list) found first)
