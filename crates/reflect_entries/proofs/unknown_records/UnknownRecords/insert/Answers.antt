-- A record goes behind those of its number, or into a set of its own where there are none.
use Rattle.std.proofs.Common.{◌≡◌, ℕ, ◌++◌, ◌∷◌, [], map, true, arith, ap, sym, ◌∙◌, Result, Ok, Err, OnOk, OnErr}
use Rattle.std.specs.BTreeMap.{is_at, insert_entry}
use Rattle.std.specs.Ordering.{nat_cmp}
use Rattle.reflect_wire.proofs.Views.{no_fields_in}
use Rattle.reflect_wire.specs.Records.{no_records}
use Rattle.reflect_wire.specs.Views.{field_view, fields_of, set_view}
use Rattle.reflect_wire.specs.declared.unknown.UnknownField.{UnknownField}
use Rattle.reflect_wire.specs.declared.unknown.UnknownFieldSet.{UnknownFieldSet}
use Rattle.reflect_entries.specs.Sets.{records_in, set_records, IsSetOf}
use Rattle.reflect_entries.proofs.Sets.{map-append, placed_alone, placed_behind, same_records, grouped_changed, grouped_more, set_grows}
use Rattle.reflect_entries.proofs.unknown_records.UnknownRecords.insert.Goals as goal

-- the records of a set that took one more
grown : (s t : UnknownFieldSet) (f : UnknownField) → fields_of s ≡ fields_of t ++ f ∷ [] → set_records s ≡ set_records t ++ field_view f ∷ []
grown s t f e = ap (map field_view) e ∙ map-append field_view (fields_of t) (f ∷ [])

alone : (s t : UnknownFieldSet) (f : UnknownField) → set_view t ≡ no_records → fields_of s ≡ fields_of t ++ f ∷ [] → set_records s ≡ field_view f ∷ []
alone s t f none e = grown s t f e ∙ ap (λ l. map field_view l ++ field_view f ∷ []) (no_fields_in t none)

-- of a set that took it or refused it, all have the number that the test is for
still_grouped : (n k : ℕ) (s t : UnknownFieldSet) (f : UnknownField) → (field_view f).0 ≡ n → is_at (nat_cmp n) k ≡ true → IsSetOf k (set_records t) → fields_of s ≡ fields_of t ++ f ∷ [] → IsSetOf k (set_records s)
still_grouped n k s t f num at g e =
    let same : n ≡ k = grind (arith, at) in
    rw (grown s t f e) (set_grows k (set_records t) (field_view f) (num ∙ same) g.1)

-- what follows from an `Ok` and from an `Err` follows from both
either : {A E : Type 0} {P Q G : Type 0} (r : Result A E) → OnOk r P → OnErr r Q → (P → G) → (Q → G) → G
either (Ok a) p q f g = f p
either (Err e) p q f g = g q

-- and what holds holds after an `Err`
anyway : {A E : Type 0} {P : Type 0} (r : Result A E) → P → OnErr r P
anyway (Ok a) p = tt
anyway (Err e) p = p

pub invariant_of-self : goal.invariant_of-self
invariant_of-self c =
    let f = c.args.field in
    let s = c.insert.new.self in
    let t = c.in-Some.set.now in
    let n = c.number-number.result in
    let sets = c.args.self.now.sets.entries in
    let still : (k : ℕ) → is_at (nat_cmp n) k ≡ true → IsSetOf k (set_records t) → IsSetOf k (set_records s) = λ k at g.
    either c.insert.result c.insert.ensures.ok c.insert.ensures.left
    (λ e. still_grouped n k s t f (sym c.number-number.ensures) at g e)
    (λ e. rw (ap (map field_view) e) g) in
    record { grouped = rw (c.get_mut.follows.holds s).0 (grouped_changed (is_at (nat_cmp n)) s t sets (sym c.in-Some.ensures.value) still c.args.self.now.grouped) }

pub returns-in_err-insert-clause-left : goal.returns-in_err-insert-clause-left
returns-in_err-insert-clause-left c =
    let s = c.insert.new.self in
    let sets = c.args.self.now.sets.entries in
    anyway c.from_residual.result
    (ap records_in (c.get_mut.follows.holds s).0
    ∙ same_records (is_at (nat_cmp c.number-number.result)) s c.in-Some.set.now sets (sym c.in-Some.ensures.value) (ap (map field_view) c.in_err-insert.ensures.left))

pub returns-in-Some-clause-placed : goal.returns-in-Some-clause-placed
returns-in-Some-clause-placed c =
    let f = c.args.field in
    let sets = c.args.self.now.sets.entries in
    ap records_in (c.get_mut.follows.holds c.insert.new.self).0
    ∙ rw c.number-number.ensures
    (placed_behind (field_view f) c.insert.new.self sets c.in-Some.set.now (grown c.insert.new.self c.in-Some.set.now f c.in_ok-insert.ensures.ok) c.args.self.now.grouped c.get_mut.ensures.ordered (rw c.number-number.ensures at (sym c.in-Some.ensures.value)))

pub invariant_of-self-2 : goal.invariant_of-self-2
invariant_of-self-2 c =
    let f = c.args.field in
    let n = c.number-number.result in
    let sets = c.args.self.now.sets.entries in
    let one : set_records c.insert-2.new.self ≡ field_view f ∷ [] = alone c.insert-2.new.self c.new-set.result f c.new-set.ensures c.in_ok-insert-2.ensures.ok in
    let is : IsSetOf n (set_records c.insert-2.new.self) = rw one (set_grows n [] (field_view f) (sym c.number-number.ensures) tt) in
    record {
      grouped =
          either c.insert-3.result c.insert-3.ensures.entries c.insert-3.ensures.err
          (λ e. rw (e, ap (λ m. m.entries) c.get_mut.follows.holds-at-none) (grouped_more n c.insert-2.new.self sets is c.args.self.now.grouped))
          (λ e. rw (e, ap (λ m. m.entries) c.get_mut.follows.holds-at-none) c.args.self.now.grouped);
    }

pub returns-clause-placed : goal.returns-clause-placed
returns-clause-placed c =
    let f = c.args.field in
    let n = c.number-number.result in
    let sets = c.args.self.now.sets.entries in
    let one : set_records c.insert-2.new.self ≡ field_view f ∷ [] = alone c.insert-2.new.self c.new-set.result f c.new-set.ensures c.in_ok-insert-2.ensures.ok in
    ap records_in c.in_ok-insert-3.ensures.entries
    ∙ ap (λ es. records_in (insert_entry nat_cmp es n c.insert-2.new.self)) (ap (λ m. m.entries) c.get_mut.follows.holds-at-none)
    ∙ rw c.number-number.ensures (placed_alone (field_view f) c.insert-2.new.self sets one c.args.self.now.grouped c.get_mut.ensures.ordered (rw c.number-number.ensures at (sym c.in_default.ensures.value)))
