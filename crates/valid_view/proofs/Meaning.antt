-- Messages that suit their types by the test, are tidy and hold what is whole, suit the model's.
use Rattle.std.proofs.Common.{◌≡◌, ◌≢◌, ◌⊎◌, inl, inr, ◌≤◌, ◌<◌, ◌^◌, ℕ, ◌==◌, not, Bool, true, false, true≢false, cond, is_some, List, [], ◌∷◌, Option, None, Some, option_map, refl, sym, ap, ◌∙◌, subst, arith}
use Rattle.std.proofs.lemmas.Bool.{and_parts}
use Rattle.reflect_wire.specs.Records.{Payload}
use Rattle.protobuf_model.specs.Meaning.{payloads}
use Rattle.protobuf_model.specs.Typed.{IsHeldOf, IsTypedBy}
use Rattle.protobuf_model.specs.Types.{Field, Name, oneof_of, rival, same_oneof}
use Rattle.protobuf_model.specs.Values.{Message, absent, records}
use Rattle.reflect_pool.specs.FieldsLeft.{field_type}
use Rattle.reflect_pool.specs.declared.extension.ExtensionDescriptor.{ExtensionDescriptor}
use Rattle.reflect_pool.specs.declared.field.FieldDescriptor.{FieldDescriptor}
use Rattle.reflect_pool.specs.declared.message.MessageDescriptor.{MessageDescriptor}
use Rattle.reflect_tables.specs.Types.{KindType}
use Rattle.reflect_tables.specs.Types as types
use Rattle.reflect_entries.specs.Entries.{value_at}
use Rattle.reflect_entries.specs.Members.{first_member_of}
use Rattle.reflect_scalar.specs.FieldTypes.{extension_type}
use Rattle.reflect_decode.specs.Ordered.{Ascend, last}
use Rattle.reflect_message.specs.Declares.{Owns, OwnsExtension}
use Rattle.reflect_message.specs.Held.{extensions_of, fields_of, unknown_of}
use Rattle.reflect_message.specs.Known.{known_extension, known_field}
use Rattle.reflect_message.specs.Names.{DynamicMessage, Value}
use Rattle.reflect_numbered.specs.Fits.{suits_type}
use Rattle.reflect_numbered.specs.declared.validity.Strictness.TheVariants.{Types}
use Rattle.message_view.specs.Sound.{IsSound}
use Rattle.message_view.specs.Types.{either_field, field_at, field_of, name_at, oneof_at, types_of}
use Rattle.message_view.specs.Views.{content_view, held_either, held_in, view}
use Rattle.message_view.proofs.Fields.{by_number, none_owned, owned}
use Rattle.message_view.proofs.Numbered.{extension_number, field_number}
use Rattle.message_view.proofs.Oneofs.{rival_is_sibling}
use Rattle.message_view.proofs.Sound.{named}
use Rattle.set_view.proofs.Keyed.{extension_told, field_told}
use Rattle.set_view.proofs.Viewed.{of_extension, of_field, view_at}
use Rattle.valid_view.specs.Inside.{EachMessage}
use Rattle.valid_view.specs.Tidy.{IsSolid, IsTidy, OfHeld}
use Rattle.valid_view.proofs.Opened.{kinds_of}
use Rattle.valid_view.proofs.Suiting.{whole_suits}
use Rattle.valid_view.proofs.Testing.{extension_whole, field_whole}
use Rattle.valid_view.proofs.Valid.{whole_of}

-- ---- records whose numbers ascend
reach : (low high : ℕ) (rs : List (ℕ × Payload)) → Ascend low high rs → low ≤ high
reach low high [] up = up
reach low high (r ∷ rs) up = let first = up.0 in let later = reach r.0 high rs up.1 in omega (arith, first, later)

-- a number has none, or is one of those that they may have
numbered : (n low high : ℕ) (rs : List (ℕ × Payload)) → Ascend low high rs → (payloads n rs ≡ []) ⊎ ((low ≤ n) × (n ≤ high))
numbered n low high [] up = inl refl
numbered n low high (r ∷ rs) up = by (r.0 == n) refl (numbered n r.0 high rs up.1) where
  by : (b : Bool) → (r.0 == n) ≡ b → (payloads n rs ≡ []) ⊎ ((r.0 ≤ n) × (n ≤ high)) → (cond b (r.1 ∷ payloads n rs) (payloads n rs) ≡ []) ⊎ ((low ≤ n) × (n ≤ high))
  by true is h =
      let same : r.0 ≡ n = grind (arith, is) in
      let first = up.0 in
      let top = reach r.0 high rs up.1 in
      inr (omega (arith, same, first), omega (arith, same, top))
  by false is (inl none) = inl none
  by false is (inr two) = let first = up.0 in let next = two.0 in inr (omega (arith, first, next), two.1)

-- ---- messages of one level, of which `Q` holds of those inside
module _ (count : ℕ) (Q : DynamicMessage → Type 0) (inner : Name → Message → Type 0) (m : DynamicMessage) (sound : IsSound m.descriptor.pool.now) (typed : suits_type Types m ≡ true)
    (tidy : IsTidy m.descriptor.pool.now m) (solid : IsSolid count m) (each : OfHeld (EachMessage Q) m)
    (use_it : (t : KindType) (n : DynamicMessage) → kinds_of n Types m.descriptor.pool.now t ≡ true → Q n → (t ≡ types.message n.descriptor.index) × inner (name_at m.descriptor.pool.now n.descriptor.index) (view n)) where
  abbrev d : MessageDescriptor
  d = m.descriptor

  abbrev fields : ℕ → Option Field
  fields = types_of m.descriptor.pool.now (name_at m.descriptor.pool.now m.descriptor.index)

  told : (n : ℕ) → fields n ≡ field_at d.pool.now d.index n
  told n = named d.pool.now sound.names d.index n d.in_range

  -- what stands under the number of a field or of an extension
  field_held : (f : FieldDescriptor) → Owns d f → (o : Option Value) → value_at (fields_of m) (field_type f).number ≡ o
      → IsHeldOf inner count (Some (field_of d.pool.now (oneof_at d.pool.now d.index (field_type f)) false (field_type f))) (held_in d.pool.now (field_type f) (option_map content_view o))
  field_held f owns None at = refl
  field_held f owns (Some v) at =
      whole_suits Types d.pool.now Q inner use_it count (field_type f) (oneof_at d.pool.now d.index (field_type f)) false v
      (whole_of Types d.pool.now (field_type f) v (field_whole Types m typed f owns v at)) (each.fields (field_type f).number v at) (solid.values.fields (field_type f).number v at)

  extension_held : (x : ExtensionDescriptor) → OwnsExtension d x → (o : Option Value) → value_at (extensions_of m) (extension_type x).number ≡ o
      → IsHeldOf inner count (Some (field_of d.pool.now None true (extension_type x))) (held_in d.pool.now (extension_type x) (option_map content_view o))
  extension_held x owns None at = refl
  extension_held x owns (Some v) at =
      whole_suits Types d.pool.now Q inner use_it count (extension_type x) None true v
      (whole_of Types d.pool.now (extension_type x) v (extension_whole Types m typed x owns v at)) (each.extensions (extension_type x).number v at) (solid.values.extensions (extension_type x).number v at)

  -- a number of neither
  kept_view : (n : ℕ) → known_field d.pool.now d.index n ≡ None → known_extension d.pool.now d.index n ≡ None → view m n ≡ records (payloads n (unknown_of m))
  kept_view n none also =
      let field = option_map content_view (value_at (fields_of m) n) in
      let extension = option_map content_view (value_at (extensions_of m) n) in
      view_at m n
      ∙ ap (λ k. held_either d.pool.now k (known_extension d.pool.now d.index n) field extension (payloads n (unknown_of m))) none
      ∙ ap (λ k. held_either d.pool.now None k field extension (payloads n (unknown_of m))) also

  kept_type : (n : ℕ) → known_field d.pool.now d.index n ≡ None → known_extension d.pool.now d.index n ≡ None → fields n ≡ None
  kept_type n none also =
      told n ∙ ap (λ k. either_field d.pool.now d.index k (known_extension d.pool.now d.index n)) none ∙ ap (either_field d.pool.now d.index None) also

  -- each number holds what suits it
  abbrev Suits : ℕ → Type 0
  Suits n = IsHeldOf inner count (fields n) (view m n)

  contents : (n : ℕ) → Suits n
  contents = by_number d Suits of_a_field of_an_extension of_neither where
    of_a_field : (f : FieldDescriptor) → Owns d f → Suits (field_type f).number
    of_a_field f owns =
        let n = (field_type f).number in
        let o = value_at (fields_of m) n in
        subst (λ (t : Option Field). IsHeldOf inner count t (view m n)) (sym (field_told d sound n (field_type f) (owned d f owns)))
        (subst (IsHeldOf inner count (Some (field_of d.pool.now (oneof_at d.pool.now d.index (field_type f)) false (field_type f)))) (sym (of_field m m refl f owns o refl)) (field_held f owns o refl))

    of_an_extension : (x : ExtensionDescriptor) → OwnsExtension d x → known_field d.pool.now d.index (extension_type x).number ≡ None → Suits (extension_type x).number
    of_an_extension x owns none =
        let n = (extension_type x).number in
        let o = value_at (extensions_of m) n in
        subst (λ (t : Option Field). IsHeldOf inner count t (view m n)) (sym (extension_told d sound x owns (none_owned d n none)))
        (subst (IsHeldOf inner count (Some (field_of d.pool.now None true (extension_type x)))) (sym (of_extension m m refl x owns (none_owned d n none) o refl)) (extension_held x owns o refl))

    of_neither : (n : ℕ) → known_field d.pool.now d.index n ≡ None → known_extension d.pool.now d.index n ≡ None → Suits n
    of_neither n none also =
        subst (λ (t : Option Field). IsHeldOf inner count t (view m n)) (sym (kept_type n none also)) (subst (IsHeldOf inner count None) (sym (kept_view n none also)) (solid.records n))

  -- it is one that a field may have
  abbrev Within : ℕ → Type 0
  Within n = (view m n ≡ absent) ⊎ ((0 < n) × (n < 2 ^ 29))

  within : (n : ℕ) → Within n
  within = by_number d Within
      (λ f owns. inr (field_number f (subst IsSound (sym owns.0.1) sound)))
      (λ x owns none. inr (extension_number x (subst IsSound (sym owns.0.0) sound))) of_neither where
        of_neither : (n : ℕ) → known_field d.pool.now d.index n ≡ None → known_extension d.pool.now d.index n ≡ None → Within n
        of_neither n none also = by (numbered n 1 last (unknown_of m) tidy.ordered.unknown) where
          by : (payloads n (unknown_of m) ≡ []) ⊎ ((1 ≤ n) × (n ≤ last)) → Within n
          by (inl empty) = inl (kept_view n none also ∙ ap records empty)
          by (inr two) = let least = two.0 in let most = two.1 in inr (omega (arith, least), omega (arith, most))

  -- of two members of a oneof one holds nothing
  abbrev Alone : ℕ → ℕ → Type 0
  Alone q n = rival fields n q ≡ true → (view m n ≡ absent) ⊎ (view m q ≡ absent)

  no_rival : (n q : ℕ) → oneof_of (fields n) ≡ None → rival fields n q ≡ true → ⊥
  no_rival n q none is =
      let two = and_parts (not (q == n)) (same_oneof (oneof_of (fields n)) (oneof_of (fields q))) is in
      true≢false (sym two.1 ∙ ap (λ o. same_oneof o (oneof_of (fields q))) none)

  alone : (q n : ℕ) → Alone q n
  alone q = by_number d (Alone q) of_a_field
      (λ x owns none is. absurd (no_rival (extension_type x).number q (ap oneof_of (extension_told d sound x owns (none_owned d (extension_type x).number none))) is))
      (λ n none also is. absurd (no_rival n q (ap oneof_of (kept_type n none also)) is)) where
        of_a_field : (f : FieldDescriptor) → Owns d f → Alone q (field_type f).number
        of_a_field f owns is = by (rival_is_sibling d fields told f owns q is) where
          by : (first : ℕ) × (g : FieldDescriptor) × Owns d g × ((field_type g).number ≡ q) × (q ≢ (field_type f).number) × (first_member_of f ≡ Some first) × (first_member_of g ≡ Some first)
              → (view m (field_type f).number ≡ absent) ⊎ (view m q ≡ absent)
          by (first, g, also, number, other, mine, its) = held (value_at (fields_of m) (field_type f).number) refl (value_at (fields_of m) (field_type g).number) refl where
            held : (o : Option Value) → value_at (fields_of m) (field_type f).number ≡ o → (p : Option Value) → value_at (fields_of m) (field_type g).number ≡ p
                → (view m (field_type f).number ≡ absent) ⊎ (view m q ≡ absent)
            held None at p there = inl (of_field m m refl f owns None at)
            held (Some v) at None there = inr (ap (view m) (sym number) ∙ of_field m m refl g also None there)
            held (Some v) at (Some w) there =
                let one = tidy.exclusive.noted f owns first mine (ap is_some at) in
                let two = tidy.exclusive.noted g also first its (ap is_some there) in
                let same : (field_type f).number ≡ (field_type g).number = cc (one, two) in
                absurd (other (sym number ∙ sym same))

  pub typed_by : IsTypedBy inner count fields (view m)
  typed_by = record {
    numbers = within;
    contents = contents;
    exclusive = λ n q is. alone q n is;
  }
