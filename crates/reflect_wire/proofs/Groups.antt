-- The steps of reading a group.
use Rattle.std.proofs.Common.{◌≡◌, inl, inr, ℕ, ◌-◌, List, [], ◌∷◌, ◌++◌, map, refl, sym, ap, ◌∙◌, subst, append_assoc, append-nil}
use Rattle.reflect_wire.specs.Reads.{Fronts, NoFront}
use Rattle.reflect_wire.specs.Key.{IsKey, IsDelimited}
use Rattle.reflect_wire.specs.Records.{Payload, delimited, group, Records, key_of, wire_of, SpellsPayload, SpellsRecords, IsValue, IsGroup, IsField}
use Rattle.reflect_wire.specs.Views.{records_of, records_view, field_view}
use Rattle.reflect_wire.specs.declared.wire_key.WireKey.{WireKey}
use Rattle.reflect_wire.specs.declared.wire_key.WireType.TheVariants.{LengthDelimited, StartGroup, EndGroup}
use Rattle.reflect_wire.specs.declared.unknown.UnknownField.{UnknownField}
use Rattle.reflect_wire.proofs.Unique.{one_key, not_end, after_done, begins}

module _ (levels n : ℕ) (bytes rest : List ℕ) (done : Records) (found : Fronts (SpellsRecords levels) bytes done rest) where
  -- what any group at the front has behind the records that were read
  left : (f more : List ℕ) (rs : Records) (g : IsGroup levels n f rs) → bytes ≡ f ++ more → (tail : List ℕ) × (ts : Records) × SpellsRecords levels tail ts × (rest ≡ (tail ++ g.1) ++ more)
  left f more rs g e = after_done levels n found.0 rest g.0 g.1 more done rs found.1 g.2 g.3 (sym found.2 ∙ e ∙ ap (λ f. f ++ more) g.4)

  pub no_key_no_group : NoFront IsKey rest → NoFront (IsGroup levels n) bytes
  no_key_no_group none f more rs g e =
      let a = left f more rs g e in
      let b = begins levels n a.0 g.1 more a.1 a.2 g.3 in
      none b.1 b.2 b.0 b.3 (a.3 ∙ b.4)

  pub other_end : (key : WireKey) (behind : List ℕ) → Fronts IsKey rest key behind → key.wire ≡ EndGroup → (key.number ≡ n → ⊥) → NoFront (IsGroup levels n) bytes
  other_end key behind read wire other f more rs g e =
      let a = left f more rs g e in
      let b = begins levels n a.0 g.1 more a.1 a.2 g.3 in
      let one = one_key read.0 b.1 behind b.2 key b.0 read.1 b.3 (sym read.2 ∙ a.3 ∙ b.4) in
      elim b.5 [
        | inl k ↦ other (ap (λ (c : WireKey). c.number) (one.1 ∙ k))
        | inr p ↦ not_end p.0 (sym p.1 ∙ ap (λ (c : WireKey). c.wire) (sym one.1) ∙ wire)
      ]

  pub no_value_no_group : (key : WireKey) (behind : List ℕ) → Fronts IsKey rest key behind → (key.wire ≡ EndGroup → ⊥) → NoFront (IsValue levels key) behind → NoFront (IsGroup levels n) bytes
  no_value_no_group key behind read open_ none f more rs g e =
      let a = left f more rs g e in
      let b = begins levels n a.0 g.1 more a.1 a.2 g.3 in
      let one = one_key read.0 b.1 behind b.2 key b.0 read.1 b.3 (sym read.2 ∙ a.3 ∙ b.4) in
      elim b.5 [
        | inl k ↦ open_ (ap (λ (c : WireKey). c.wire) (one.1 ∙ k))
        | inr p ↦ none p.2.0 p.2.1 p.0 (ap (λ (c : WireKey). c.wire) one.1 ∙ p.1, subst (λ (c : WireKey). SpellsPayload levels c.number p.2.0 p.0) (sym one.1) p.2.2) (one.2 ∙ p.2.3)
      ]

  pub whole_group : (key : WireKey) (behind : List ℕ) → Fronts IsKey rest key behind → key.wire ≡ EndGroup → key.number ≡ n → Fronts (IsGroup levels n) bytes done behind
  whole_group key behind read wire number =
      let same : key ≡ key_of n EndGroup = ap (λ n. key_of n key.wire) number ∙ ap (key_of n) wire in
      (found.0 ++ read.0, (found.0, read.0, found.1, subst (IsKey read.0) same read.1, refl), found.2 ∙ ap (λ r. found.0 ++ r) read.2 ∙ sym (append_assoc found.0 read.0 behind))

spells_push : (levels n : ℕ) (front key value : List ℕ) (rs : List (ℕ × Payload)) (p : Payload) → SpellsRecords levels front (records_of rs) → IsKey key (key_of n (wire_of p)) → SpellsPayload levels n value p
    → SpellsRecords levels (front ++ (key ++ value)) (records_of (rs ++ (n, p) ∷ []))
spells_push levels n front key value [] p h k v = (key, value, [], k, v, refl, ap (λ f. f ++ (key ++ value)) h ∙ ap (λ v. key ++ v) (sym (append-nil value)))
spells_push levels n front key value (r ∷ rs) p h k v =
    (h.0, h.1, h.2 ++ (key ++ value), h.3, h.4, spells_push levels n h.2 key value rs p h.5 k v, ap (λ f. f ++ (key ++ value)) h.6 ∙ simp append_assoc)

map-push : (fs : List UnknownField) (f : UnknownField) → map field_view (fs ++ f ∷ []) ≡ map field_view fs ++ field_view f ∷ []
map-push [] f = refl
map-push (g ∷ fs) f = ap (λ rs. field_view g ∷ rs) (map-push fs f)

pub pushed : (levels : ℕ) (bytes rest behind more : List ℕ) (key : WireKey) (fs : List UnknownField) (f : UnknownField) → Fronts (SpellsRecords levels) bytes (records_view fs) rest
    → Fronts IsKey rest key behind → Fronts (IsValue levels key) behind (field_view f).1 more → f.number ≡ key.number → Fronts (SpellsRecords levels) bytes (records_view (fs ++ f ∷ [])) more
pushed levels bytes rest behind more key fs f found read value number =
    let same : key ≡ key_of f.number (wire_of (field_view f).1) = ap (λ n. key_of n key.wire) (sym number) ∙ ap (key_of f.number) value.1.0 in
    let whole = spells_push levels f.number found.0 read.0 value.0 (map field_view fs) (field_view f).1 found.1 (subst (IsKey read.0) same read.1)
    (subst (λ n. SpellsPayload levels n value.0 (field_view f).1) (sym number) value.1.1) in (
      found.0 ++ (read.0 ++ value.0),
      subst (λ rs. SpellsRecords levels (found.0 ++ (read.0 ++ value.0)) (records_of rs)) (sym (map-push fs f)) whole,
      found.2 ∙ ap (λ r. found.0 ++ r) read.2 ∙ ap (λ r. found.0 ++ (read.0 ++ r)) value.2 ∙ simp append_assoc,
    )

-- the same, of a record that was read as one
pub pushed_field : (levels : ℕ) (bytes rest more : List ℕ) (fs : List UnknownField) (f : UnknownField) → Fronts (SpellsRecords levels) bytes (records_view fs) rest
    → Fronts (IsField levels) rest (field_view f) more → Fronts (SpellsRecords levels) bytes (records_view (fs ++ f ∷ [])) more
pushed_field levels bytes rest more fs f found field =
    let key = field.1.0 in
    let value = field.1.1 in
    let whole = spells_push levels (field_view f).0 found.0 key value (map field_view fs) (field_view f).1 found.1 field.1.2 field.1.3 in (
      found.0 ++ (key ++ value),
      subst (λ rs. SpellsRecords levels (found.0 ++ (key ++ value)) (records_of rs)) (sym (map-push fs f)) whole,
      found.2 ∙ ap (λ r. found.0 ++ r) field.2 ∙ ap (λ r. found.0 ++ (r ++ more)) field.1.4 ∙ sym (append_assoc found.0 (key ++ value) more),
    )

-- no value of its form stands where none of its payloads does
pub no_delimited : (levels : ℕ) (key : WireKey) (bytes : List ℕ) → key.wire ≡ LengthDelimited → NoFront IsDelimited bytes → NoFront (IsValue levels key) bytes
no_delimited levels key bytes wire none f more (delimited d) h e = none f more d h.1 e
no_delimited levels key bytes wire none f more p h e = cc (h.0)

pub no_group : (levels : ℕ) (key : WireKey) (bytes : List ℕ) → key.wire ≡ StartGroup → NoFront (IsGroup (levels - 1) key.number) bytes → NoFront (IsValue levels key) bytes
no_group levels key bytes wire none f more (group rs) h e = none f more rs h.1.1 e
no_group levels key bytes wire none f more p h e = cc (h.0)

-- one record
pub no_key_no_field : (levels : ℕ) (bytes : List ℕ) → NoFront IsKey bytes → NoFront (IsField levels) bytes
no_key_no_field levels bytes none f more r g e = none g.0 (g.1 ++ more) _ g.2 (e ∙ ap (λ f. f ++ more) g.4 ∙ append_assoc g.0 g.1 more)

pub no_value_no_field : (levels : ℕ) (bytes behind : List ℕ) (key : WireKey) → Fronts IsKey bytes key behind → NoFront (IsValue levels key) behind → NoFront (IsField levels) bytes
no_value_no_field levels bytes behind key read none f more r g e =
    let one = one_key read.0 g.0 behind (g.1 ++ more) key _ read.1 g.2 (sym read.2 ∙ e ∙ ap (λ f. f ++ more) g.4 ∙ append_assoc g.0 g.1 more) in
    none g.1 more r.1 (ap (λ (c : WireKey). c.wire) one.1, subst (λ (c : WireKey). SpellsPayload levels c.number g.1 r.1) (sym one.1) g.3) one.2

pub field_there : (levels : ℕ) (bytes behind more : List ℕ) (key : WireKey) (p : Payload) → Fronts IsKey bytes key behind → Fronts (IsValue levels key) behind p more → Fronts (IsField levels) bytes (key.number, p) more
field_there levels bytes behind more key p read value = (
  read.0 ++ value.0,
  (read.0, value.0, subst (IsKey read.0) (ap (key_of key.number) value.1.0) read.1, value.1.1, refl),
  read.2 ∙ ap (λ r. read.0 ++ r) value.2 ∙ sym (append_assoc read.0 value.0 more),
)
