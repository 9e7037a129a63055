-- A declaration is sound exactly where it is complete, typed and labelled, meets the rules of
-- numbers, and the numbers of enum values are of 32 bits.
use Rattle.std.proofs.Common.{◌≡◌, ◌∙◌, inl, inr, ℤ, Bool, true, List, Option, Some, None, ap, sym, subst, refl}
use Rattle.std.specs.Prelude.{FitsSigned}
use Rattle.std.specs.Int.{w32}
use Rattle.std.specs.List.{Contains, AllByRecursion}
use Rattle.descriptor_records.specs.Content.{FieldContent, EnumContent, EnumValueContent, FileContent}
use Rattle.schema_view.specs.Files.{IsThere, is_proto3}
use Rattle.schema_view.specs.Declarations.{Body, of_message, of_field, of_oneof, of_enum, of_value, of_service, of_method, of_extension, Declaration, declarations}
use Rattle.schema_view.specs.Scalars.{is_scalar}
use Rattle.schema_view.specs.Rules.{HasFieldNumber, HasLabel, HasType, IsField, HasValueNumber, IsSound}
use Rattle.linked_view.specs.Complete.{IsNamedType, GivesType, IsGivenField, IsComplete}
use Rattle.linked_view.specs.Ruled.{IsRuledField, IsRuled, IsRanged, IsTyped, Each, AreRuled}
use Rattle.linked_view.specs.Whole.{IsLabelled, IsFitting, AreSound}
use Rattle.linked_view.proofs.Named.{in_all, all_in}
use Rattle.linked_view.proofs.Paired.{file_paired}

no_scalar : (z : ℤ) → is_scalar z ≡ true → IsNamedType z → ⊥
no_scalar z e (inl is) = cc (sym (ap is_scalar is) ∙ e)
no_scalar z e (inr (inl is)) = cc (sym (ap is_scalar is) ∙ e)
no_scalar z e (inr (inr is)) = cc (sym (ap is_scalar is) ∙ e)

given_type : (t : Option ℤ) (o : Option _) → HasType t o → GivesType t o
given_type None o h = h
given_type (Some z) None h = no_scalar z h
given_type (Some z) (Some s) h = tt

number_there : (o : Option ℤ) → HasFieldNumber o → IsThere o
number_there o (z, e, is) = (z, e)

given_field : (f : FieldContent) → IsField f → IsGivenField f
given_field f h = record {
  name = h.name;
  number = number_there f.number h.number;
  type = given_type f.field_type f.type_name h.type;
}

field_of : (f : FieldContent) → IsGivenField f → HasType f.field_type f.type_name → HasLabel f.label
    → IsRuledField f → IsField f
field_of f given typed label ruled = record {
  name = given.name;
  number = ruled.number;
  label = label;
  type = typed;
  default = ruled.default;
}

module _ (fs : List FileContent) where
  module _ (sound : AreSound fs) where
    value_number : (f : FileContent) (d : Declaration) (v : EnumValueContent) → Contains fs f
        → Contains (declarations f) d → d.body ≡ of_value v → HasValueNumber v.number
    value_number f d v i j is =
        let p = (file_paired f).enums d v j is in
        let e = subst (IsSound (is_proto3 f)) p.3 (sound f p.0 i p.2) in
        in_all (λ (x : EnumValueContent). HasValueNumber x.number) p.1.value e.numbers v p.4

    module _ (f : FileContent) (d : Declaration) (i : Contains fs f)
        (j : Contains (declarations f) d) where
      complete_one : (b : Body) → d.body ≡ b → IsSound (is_proto3 f) b → IsComplete b
      complete_one (of_message m) is h = (h.name, h.bounds.0, h.bounds.1)
      complete_one (of_field x) is h = given_field x h
      complete_one (of_oneof o) is h = h
      complete_one (of_enum e) is h = (h.name, h.bounds)
      complete_one (of_value v) is h =
          let n = value_number f d v i j is in (h, (n.0, n.1))
      complete_one (of_service s) is h = h
      complete_one (of_method m) is h = h
      complete_one (of_extension x) is h = (given_field x h.0, h.1)

      fitting_one : (b : Body) → d.body ≡ b → IsFitting b
      fitting_one (of_value v) is = λ n e.
          let own = value_number f d v i j is in
          let same : own.0 ≡ n = cc (sym own.1 ∙ e) in
          subst (FitsSigned w32) same own.2
      fitting_one b is = tt

    typed_one : (proto3 : Bool) (b : Body) → IsSound proto3 b → IsTyped b
    typed_one p (of_field x) h = h.type
    typed_one p (of_extension x) h = h.0.type
    typed_one p b h = tt

    labelled_one : (proto3 : Bool) (b : Body) → IsSound proto3 b → IsLabelled b
    labelled_one p (of_field x) h = h.label
    labelled_one p (of_extension x) h = h.0.label
    labelled_one p b h = tt

    ruled_one : (proto3 : Bool) (b : Body) → IsSound proto3 b → IsRuled proto3 b × IsRanged b
    ruled_one p (of_message m) h = (
      record { apart = h.apart; entry = h.entry },
      record { unreserved = h.unreserved; no_extension = h.no_extension; oneofs = h.oneofs },
    )
    ruled_one p (of_field x) h = (record { number = h.number; default = h.default }, tt)
    ruled_one p (of_enum e) h = ((h.first, h.apart), tt)
    ruled_one p (of_extension x) h = (record { number = h.0.number; default = h.0.default }, tt)
    ruled_one p b h = (tt, tt)

    pub sound_parts : Each IsComplete fs × Each IsTyped fs × Each IsLabelled fs × AreRuled fs
        × Each IsFitting fs
    sound_parts = (
      λ f d i j. complete_one f d i j d.body refl (sound f d i j),
      λ f d i j. typed_one (is_proto3 f) d.body (sound f d i j),
      λ f d i j. labelled_one (is_proto3 f) d.body (sound f d i j),
      λ f d i j. ruled_one (is_proto3 f) d.body (sound f d i j),
      λ f d i j. fitting_one f d i j d.body refl,
    )

  module _ (complete : Each IsComplete fs) (fitting : Each IsFitting fs) where
    numbers_of : (f : FileContent) (d : Declaration) (e : EnumContent) → Contains fs f
        → Contains (declarations f) d → d.body ≡ of_enum e
        → AllByRecursion (λ (v : EnumValueContent). HasValueNumber v.number) e.value
    numbers_of f d e i j is =
        all_in (λ (v : EnumValueContent). HasValueNumber v.number) e.value (λ v k.
        let p = (file_paired f).values d e v j is k in
        let whole = subst IsComplete p.2 (complete f p.0 i p.1) in
        let fits = subst IsFitting p.2 (fitting f p.0 i p.1) in
        (whole.1.0, whole.1.1, fits whole.1.0 whole.1.1))

    module _ (f : FileContent) (d : Declaration) (i : Contains fs f)
        (j : Contains (declarations f) d) where
      sound_one : (b : Body) → d.body ≡ b → IsComplete b → IsTyped b → IsLabelled b
          → IsRuled (is_proto3 f) b × IsRanged b → IsSound (is_proto3 f) b
      sound_one (of_message m) is c t l r = record {
        name = c.0;
        apart = r.0.apart;
        unreserved = r.1.unreserved;
        no_extension = r.1.no_extension;
        oneofs = r.1.oneofs;
        bounds = (c.1, c.2);
        entry = r.0.entry;
      }
      sound_one (of_field x) is c t l r = field_of x c t l r.0
      sound_one (of_oneof o) is c t l r = c
      sound_one (of_enum e) is c t l r = record {
        name = c.0;
        first = r.0.0;
        numbers = numbers_of f d e i j is;
        apart = r.0.1;
        bounds = c.1;
      }
      sound_one (of_value v) is c t l r = c.0
      sound_one (of_service s) is c t l r = c
      sound_one (of_method m) is c t l r = c
      sound_one (of_extension x) is c t l r = (field_of x c.0 t l r.0, c.1)

  pub parts_sound : Each IsComplete fs × Each IsTyped fs × Each IsLabelled fs × AreRuled fs
      × Each IsFitting fs → AreSound fs
  parts_sound (complete, typed, labelled, ruled, fitting) = λ f d i j.
      sound_one complete fitting f d i j d.body refl (complete f d i j) (typed f d i j)
      (labelled f d i j) (ruled f d i j)
