-- The defaults of the types of messages are values of their kinds.
use Rattle.std.proofs.Common.{◌≡◌, ◌<◌, ◌^◌, length, ℕ, ℤ, pos, negsuc, List, [], ◌∷◌, ◌⊎◌, inl, inr, Bool, true, false, cond, ◌&&◌, ◌==◌, Option, Some, None, refl, sym, ap, ◌∙◌, subst, arith, rules}
use Rattle.std.specs.Prelude.{FitsSigned}
use Rattle.std.specs.Int.{w32, w64}
use Rattle.std.specs.List.{Contains, AllByRecursion}
use Rattle.std.specs.Option.{option_and_then, option_map, option_or}
use Rattle.std.specs.Str.{bytes_eq}
use Rattle.descriptor_records.specs.Content.{Text, FieldContent, EnumValueContent, FileContent}
use Rattle.descriptor_records.specs.FieldNumbers.{type_number}
use Rattle.descriptor_records.specs.declared.field.FieldType.{FieldType}
use Rattle.descriptor_records.specs.declared.field.FieldType.TheVariants as numbers
use Rattle.protobuf_model.specs.Coded.{IsRecoded, Mean}
use Rattle.protobuf_model.specs.Values.{Message, enumerated}
use Rattle.protobuf_model.specs.Types.{Scalar, Frame, sized, tagged, Kind, scalar, nested, Part, one, many, keyed, Field}
use Rattle.protobuf_model.specs.Types as kinds
use Rattle.protobuf_model.specs.Scalars.{Suits}
use Rattle.protobuf_model.specs.Typed.{HasDefault, HasEntryDefaults, HasDefaults, HaveDefaults}
use Rattle.schema_view.specs.Files.{text_of, is_proto3}
use Rattle.schema_view.specs.Scalars.{is_scalar, IsDefault, IsScalarDefault}
use Rattle.schema_view.specs.Declarations.{MessageFacts, Body, of_message, of_field, of_oneof, of_enum, of_value, of_service, of_method, of_extension}
use Rattle.schema_view.specs.Rules.{HasValueNumber, IsSound}
use Rattle.schema_view.specs.Lawful.{AddsLawful, Builds}
use Rattle.schema_view.specs.Views.{Held, View, or_else, when, view_of}
use Rattle.schema_view.specs.Fields.{is_repeated, is_packed, has_presence}
use Rattle.schema_view.specs.Types.{undotted, type_name, message_at, body_at, field_at, type_at, is_proto3_at, number_in, value_number, first_number, values_of, scalar_numbers, scalar_of, kind_by, kind_of, zero_of, said_of, default_of, part_of, name_of_field, names_entry, entry_part, key_of, map_field, oneof_in, plain_field, held_field, field_named, own_named, extension_named, types_of}
use Rattle.schema_view.proofs.Lists.{contains_none, contains_cases, first_from}
use Rattle.schema_view.proofs.Road.{AreLinked, built_linked}
use Rattle.schema_view.proofs.Looking.{from_there}
use Rattle.protobuf_model.proofs.Chains.{passes}
use Rattle.schema_view.proofs.Growing.{grown_types}
use Rattle.schema_view.proofs.Standing.{StandsIn, field_sound, NamesField, stands, found, field_there, extension_there}

zero_32 : FitsSigned w32 (pos 0)
zero_32 = search rules

zero_64 : FitsSigned w64 (pos 0)
zero_64 = search rules

abbrev Fit : List EnumValueContent → Type 0
Fit vs = AllByRecursion (λ (v : EnumValueContent). FitsSigned w32 (number_in v)) vs

number_fits : (v : EnumValueContent) → HasValueNumber v.number → FitsSigned w32 (number_in v)
number_fits v (n, e, f) = subst (λ o. FitsSigned w32 (elim o [ None ↦ pos 0 | Some z ↦ z ])) (sym e) f

numbers_fit : (vs : List EnumValueContent) → AllByRecursion (λ (v : EnumValueContent). HasValueNumber v.number) vs → Fit vs
numbers_fit [] h = tt
numbers_fit (v ∷ vs) h = (number_fits v h.0, numbers_fit vs h.1)

first_fits : (vs : List EnumValueContent) → Fit vs → FitsSigned w32 (first_number vs)
first_fits [] h = zero_32
first_fits (v ∷ vs) h = h.0

abbrev or_zero : Option ℤ → ℤ
or_zero None = pos 0
or_zero (Some z) = z

named_fits : (s : Text) (vs : List EnumValueContent) → Fit vs → FitsSigned w32 (or_zero (value_number s vs))
named_fits s [] h = zero_32
named_fits s (v ∷ vs) h = by (bytes_eq (text_of v.name) s) (named_fits s vs h.1) where
  by : (b : Bool) → FitsSigned w32 (or_zero (value_number s vs)) → FitsSigned w32 (or_zero (or_else (when b (number_in v)) (value_number s vs)))
  by true rest = h.0
  by false rest = rest

zero_suits : (vs : List EnumValueContent) → Fit vs → (k : Scalar) → Suits k (zero_of vs (scalar k))
zero_suits vs fit kinds.int32 = zero_32
zero_suits vs fit kinds.int64 = zero_64
zero_suits vs fit kinds.uint32 = omega arith
zero_suits vs fit kinds.uint64 = omega arith
zero_suits vs fit kinds.sint32 = zero_32
zero_suits vs fit kinds.sint64 = zero_64
zero_suits vs fit kinds.fixed32 = omega arith
zero_suits vs fit kinds.fixed64 = omega arith
zero_suits vs fit kinds.sfixed32 = zero_32
zero_suits vs fit kinds.sfixed64 = zero_64
zero_suits vs fit kinds.bool = tt
zero_suits vs fit kinds.string = search rules
zero_suits vs fit kinds.bytes = tt
zero_suits vs fit kinds.enumeration = first_fits vs fit

same_kind : (k l : Scalar) → Some (scalar k) ≡ Some (scalar l) → k ≡ l
same_kind k l e = ap (λ (o : Option Kind). elim o [ None ↦ k | Some m ↦ elim m [ scalar j ↦ j | nested frame t ↦ k ] ]) e

-- a default text that is one of the type, as a value of the type's kind
text_suits : (vs : List EnumValueContent) (s : Text) (t : FieldType) (name : Text) (k : Scalar) → IsDefault t s → kind_by (Some (type_number t)) name ≡ Some (scalar k) → Suits k (said_of vs (scalar k) s)
text_suits vs s numbers.Int32 name k h e = subst (λ j. Suits j (said_of vs (scalar j) s)) (same_kind kinds.int32 k e) h.1
text_suits vs s numbers.Int64 name k h e = subst (λ j. Suits j (said_of vs (scalar j) s)) (same_kind kinds.int64 k e) h.1
text_suits vs s numbers.Uint32 name k h e = subst (λ j. Suits j (said_of vs (scalar j) s)) (same_kind kinds.uint32 k e) h.1
text_suits vs s numbers.Uint64 name k h e = subst (λ j. Suits j (said_of vs (scalar j) s)) (same_kind kinds.uint64 k e) h.1
text_suits vs s numbers.Sint32 name k h e = subst (λ j. Suits j (said_of vs (scalar j) s)) (same_kind kinds.sint32 k e) h.1
text_suits vs s numbers.Sint64 name k h e = subst (λ j. Suits j (said_of vs (scalar j) s)) (same_kind kinds.sint64 k e) h.1
text_suits vs s numbers.Fixed32 name k h e = subst (λ j. Suits j (said_of vs (scalar j) s)) (same_kind kinds.fixed32 k e) h.1
text_suits vs s numbers.Fixed64 name k h e = subst (λ j. Suits j (said_of vs (scalar j) s)) (same_kind kinds.fixed64 k e) h.1
text_suits vs s numbers.Sfixed32 name k h e = subst (λ j. Suits j (said_of vs (scalar j) s)) (same_kind kinds.sfixed32 k e) h.1
text_suits vs s numbers.Sfixed64 name k h e = subst (λ j. Suits j (said_of vs (scalar j) s)) (same_kind kinds.sfixed64 k e) h.1
text_suits vs s numbers.Bool name k h e = subst (λ j. Suits j (said_of vs (scalar j) s)) (same_kind kinds.bool k e) tt
text_suits vs s numbers.String name k h e = subst (λ j. Suits j (said_of vs (scalar j) s)) (same_kind kinds.string k e) h
text_suits vs s numbers.Bytes name k h e = subst (λ j. Suits j (said_of vs (scalar j) s)) (same_kind kinds.bytes k e) tt
text_suits vs s numbers.Double name k h e = let no : None ≡ Some (scalar k) = e in absurd (cc)
text_suits vs s numbers.Float name k h e = let no : None ≡ Some (scalar k) = e in absurd (cc)
text_suits vs s numbers.Group name k h e = absurd h
text_suits vs s numbers.Message name k h e = absurd h
text_suits vs s numbers.Enum name k h e = absurd h

all_at : {X : Type 0} (P : X → Type 0) (xs : List X) (x : X) → AllByRecursion P xs → Contains xs x → P x
all_at P [] x h i = absurd (contains_none x i)
all_at P (y ∷ xs) x h i = elim (contains_cases y xs x i) [ inl e ↦ subst P e h.0 | inr j ↦ all_at P xs x h.1 j ]

when_is : {X : Type 0} (b : Bool) (x y : X) → when b x ≡ Some y → b ≡ true
when_is true x y e = refl
when_is false x y e = let no : None ≡ Some y = e in absurd (cc)

eqb_true : (a b : ℕ) → (a == b) ≡ true → a ≡ b
eqb_true a b e = grind (arith, e)

-- the numbers of the kinds that are no messages: an enum's, or that of a scalar type
scalar_number : (m : ℕ) (k : Scalar) → scalar_of m ≡ Some k → (m ≡ 14) ⊎ (is_scalar (pos m) ≡ true)
scalar_number m k e =
    let x = first_from (λ (p : ℕ × Scalar). when (p.0 == m) p.1) scalar_numbers k e in
    let same : x.0.0 ≡ m = (eqb_true x.0.0 m) (when_is (x.0.0 == m) x.0.1 k x.2) in
    subst (λ n. (n ≡ 14) ⊎ (is_scalar (pos n) ≡ true)) same
    (all_at (λ (p : ℕ × Scalar). (p.0 ≡ 14) ⊎ (is_scalar (pos p.0) ≡ true)) scalar_numbers x.0
    (inr refl, (inr refl, (inr refl, (inr refl, (inr refl, (inr refl, (inr refl, (inr refl, (inr refl, (inl refl, (inr refl, (inr refl, (inr refl, (inr refl, tt)))))))))))))) x.1)

enum_suits : (o : Option ℤ) → FitsSigned w32 (or_zero o) → Suits kinds.enumeration (elim o [ None ↦ enumerated (pos 0) | Some z ↦ enumerated z ])
enum_suits None h = h
enum_suits (Some z) h = h

no_scalar : (frame : Frame) (name : Text) (k : Scalar) → Some (nested frame name) ≡ Some (scalar k) → ⊥
no_scalar frame name k e = absurd (cc)

-- of an enum any text says one of its numbers
said_suits : (vs : List EnumValueContent) → Fit vs → (s : Text) (type : Option ℤ) (name : Text) (k : Scalar) → kind_by type name ≡ Some (scalar k)
    → ((n : ℤ) → type ≡ Some n → is_scalar n ≡ true → IsScalarDefault n s) → Suits k (said_of vs (scalar k) s)
said_suits vs fit s None name k e h = let no : None ≡ Some (scalar k) = e in absurd (cc)
said_suits vs fit s (Some (negsuc n)) name k e h = let no : None ≡ Some (scalar k) = e in absurd (cc)
said_suits vs fit s (Some (pos n)) name k e h = by (n == 10) (n == 11) (scalar_of n) refl e where
  other : (o : Option Scalar) → scalar_of n ≡ o → option_map scalar o ≡ Some (scalar k) → scalar_of n ≡ Some k
  other None i j = let no : None ≡ Some (scalar k) = j in absurd (cc)
  other (Some l) i j = i ∙ ap Some (same_kind l k j)

  right : scalar_of n ≡ Some k → (n ≡ 14) ⊎ (is_scalar (pos n) ≡ true) → Suits k (said_of vs (scalar k) s)
  right i (inl is) =
      let same : kinds.enumeration ≡ k = same_kind kinds.enumeration k (ap (λ m. option_map scalar (scalar_of m)) (sym is) ∙ ap (option_map scalar) i) in
      subst (λ j. Suits j (said_of vs (scalar j) s)) same (enum_suits (value_number s vs) (named_fits s vs fit))
  right i (inr is) = let d = h (pos n) refl is in text_suits vs s d.0 name k d.2 (ap (λ m. kind_by (Some m) name) d.1 ∙ e)

  by : (b c : Bool) (o : Option Scalar) → scalar_of n ≡ o → cond b (Some (nested tagged name)) (cond c (Some (nested sized name)) (option_map scalar o)) ≡ Some (scalar k) → Suits k (said_of vs (scalar k) s)
  by true c o i j = absurd (no_scalar tagged name k j)
  by false true o i j = absurd (no_scalar sized name k j)
  by false false o i j = let there = other o i j in right there (scalar_number n k there)

default_suits : (vs : List EnumValueContent) → Fit vs → (default : Option Text) (type : Option ℤ) (name : Text) (k : Kind) → kind_by type name ≡ Some k
    → ((s : Text) (n : ℤ) → default ≡ Some s → type ≡ Some n → is_scalar n ≡ true → IsScalarDefault n s) → HasDefault k (default_of vs default k)
default_suits vs fit default type name (nested frame t) e h = tt
default_suits vs fit None type name (scalar k) e h = zero_suits vs fit k
default_suits vs fit (Some s) type name (scalar k) e h = said_suits vs fit s type name k e (λ n. h s n refl)

module _ (fs : List FileContent) (l : AreLinked fs) where
  abbrev V : View
  V = view_of fs

  -- what stands under a name keeps the rules
  enum_fits : (b : Body) (p : Bool) → IsSound p b → Fit (values_of (Some b))
  enum_fits (of_enum e) p h = numbers_fit e.value h.numbers
  enum_fits (of_message m) p h = tt
  enum_fits (of_field m) p h = tt
  enum_fits (of_oneof m) p h = tt
  enum_fits (of_value m) p h = tt
  enum_fits (of_service m) p h = tt
  enum_fits (of_method m) p h = tt
  enum_fits (of_extension m) p h = tt

  body_fits : (n : Text) → Fit (values_of (body_at V n))
  body_fits n = by (V.declared n) refl where
    by : (o : Option Held) → V.declared n ≡ o → Fit (values_of (option_map (λ (h : Held). h.body) o))
    by None e = tt
    by (Some h) e =
        let x = from_there fs n h e in
        subst (λ (y : Held). Fit (values_of (Some y.body))) (sym x.5) (enum_fits x.1.body (is_proto3 x.0) ((l.each x.0 x.2).sound x.1 x.3))

  type_fits : (c : FieldContent) → Fit (values_of (type_at V c))
  type_fits c = by c.type_name where
    by : (o : Option Text) → Fit (values_of (option_and_then (λ t. body_at V (undotted t)) o))
    by None = tt
    by (Some t) = body_fits (undotted t)

  part_suits : (p x : Bool) (c : FieldContent) → StandsIn fs c → (q : Part) → part_of V p x c ≡ Some q → HasDefault q.kind q.default
  part_suits p x c s q e = by (kind_of c) refl e where
    by : (o : Option Kind) → kind_of c ≡ o → option_map (λ k. record { kind = k; presence = has_presence p x c; default = default_of (values_of (type_at V c)) c.default_value k }) o ≡ Some q → HasDefault q.kind q.default
    by None i j = let no : None ≡ Some q = j in absurd (cc)
    by (Some k) i j =
        subst (λ (o : Option Part). elim o as (λ _. Type 0) [ None ↦ Unit {0} | Some r ↦ HasDefault r.kind r.default ]) j
        (default_suits (values_of (type_at V c)) (type_fits c) c.default_value c.field_type (type_name c) k i (field_sound fs l c s).default)

  entry_suits : (t : Text) (n : ℕ) (q : Part) → entry_part V t n ≡ Some q → HasDefault q.kind q.default
  entry_suits t n q e = by (name_of_field V t n) refl e where
    at : (name : Text) (c : FieldContent) → NamesField fs name c → option_and_then (part_of V (is_proto3_at V name) false) (field_at V name) ≡ Some q → HasDefault q.kind q.default
    at name c s j = part_suits (is_proto3_at V name) false c (stands fs name c s) q (sym (ap (option_and_then (part_of V (is_proto3_at V name) false)) (found fs l name c s)) ∙ j)

    by : (o : Option Text) → name_of_field V t n ≡ o → option_and_then (λ name. option_and_then (part_of V (is_proto3_at V name) false) (field_at V name)) o ≡ Some q → HasDefault q.kind q.default
    by None i j = let no : None ≡ Some q = j in absurd (cc)
    by (Some name) i j = let c = field_there fs l t n name i in at name c.0 c.1 j

  label_suits : (p x : Bool) (n : Option ℕ) (c : FieldContent) → StandsIn fs c → (f : Field) → held_field V p x n c ≡ Some f → HasEntryDefaults f.part f.label
  label_suits p x n c s f e = by (is_repeated c && names_entry V c) e where
    plain : (o : Option Part) → (b : Bool) → option_map (λ q. record { part = q; label = cond b (many (is_packed p c)) one; oneof = n; extension = x }) o ≡ Some f → HasEntryDefaults f.part f.label
    plain None b j = let no : None ≡ Some f = j in absurd (cc)
    plain (Some q) true j = subst (λ (o : Option Field). elim o as (λ _. Type 0) [ None ↦ Unit {0} | Some g ↦ HasEntryDefaults g.part g.label ]) j tt
    plain (Some q) false j = subst (λ (o : Option Field). elim o as (λ _. Type 0) [ None ↦ Unit {0} | Some g ↦ HasEntryDefaults g.part g.label ]) j tt

    keyed_by : (q : Part) (kind : Kind) (r : Part) → r.kind ≡ kind → HasDefault r.kind r.default → HasDefault q.kind q.default
        → option_map (λ k. record { part = q; label = keyed k; oneof = n; extension = x }) (elim kind [ scalar k ↦ Some (record { kind = k; presence = r.presence; default = r.default }) | nested frame t ↦ None ]) ≡ Some f → HasEntryDefaults f.part f.label
    keyed_by q (nested frame t) r i h g j = let no : None ≡ Some f = j in absurd (cc)
    keyed_by q (scalar k) r i h g j =
        subst (λ (o : Option Field). elim o as (λ _. Type 0) [ None ↦ Unit {0} | Some g ↦ HasEntryDefaults g.part g.label ]) j (subst (λ m. HasDefault m r.default) i h, g)

    under : (q : Part) (o : Option Part) → entry_part V (type_name c) 1 ≡ o → HasDefault q.kind q.default
        → option_map (λ k. record { part = q; label = keyed k; oneof = n; extension = x }) (option_and_then key_of o) ≡ Some f → HasEntryDefaults f.part f.label
    under q None i g j = let no : None ≡ Some f = j in absurd (cc)
    under q (Some r) i g j = keyed_by q r.kind r refl (entry_suits (type_name c) 1 r i) g j

    mapped : (o : Option Part) → entry_part V (type_name c) 2 ≡ o
        → option_and_then (λ q. option_map (λ k. record { part = q; label = keyed k; oneof = n; extension = x }) (option_and_then key_of (entry_part V (type_name c) 1))) o ≡ Some f → HasEntryDefaults f.part f.label
    mapped None i j = let no : None ≡ Some f = j in absurd (cc)
    mapped (Some q) i j = under q (entry_part V (type_name c) 1) refl (entry_suits (type_name c) 2 q i) j

    by : (b : Bool) → cond b (map_field V x n c) (plain_field V p x n c) ≡ Some f → HasEntryDefaults f.part f.label
    by true j = mapped (entry_part V (type_name c) 2) refl j
    by false j = plain (part_of V p x c) (is_repeated c) j

  field_suits : (x : Bool) (g : FieldContent → Option ℕ) (name : Text) (c : FieldContent) → NamesField fs name c → (f : Field) → field_named V x g name ≡ Some f → HasEntryDefaults f.part f.label
  field_suits x g name c s f e =
      label_suits (is_proto3_at V name) x (g c) c (stands fs name c s) f (sym (ap (option_and_then (λ f. held_field V (is_proto3_at V name) x (g f) f)) (found fs l name c s)) ∙ e)

  types_suit : (t : Text) (n : ℕ) (f : Field) → types_of V t n ≡ Some f → HasEntryDefaults f.part f.label
  types_suit t n f e = by (option_and_then (own_named V t) (name_of_field V t n)) refl e where
    own : (o : Option Text) → name_of_field V t n ≡ o → option_and_then (own_named V t) o ≡ Some f → HasEntryDefaults f.part f.label
    own None i j = let no : None ≡ Some f = j in absurd (cc)
    own (Some name) i j = let c = field_there fs l t n name i in field_suits false (oneof_in (message_at V t)) name c.0 c.1 f j

    other : (o : Option Text) → V.extensions (t, pos n) ≡ o → option_and_then (extension_named V) o ≡ Some f → HasEntryDefaults f.part f.label
    other None i j = let no : None ≡ Some f = j in absurd (cc)
    other (Some name) i j = let c = extension_there fs l t (pos n) name i in field_suits true (λ f. None) name c.0 c.1 f j

    by : (o : Option Field) → option_and_then (own_named V t) (name_of_field V t n) ≡ o → option_or o (option_and_then (extension_named V) (V.extensions (t, pos n))) ≡ Some f → HasEntryDefaults f.part f.label
    by None i j = other (V.extensions (t, pos n)) refl j
    by (Some g) i j = own (name_of_field V t n) refl (i ∙ j)

  pub have_defaults : HaveDefaults (types_of V)
  have_defaults t n = by (types_of V t n) refl where
    by : (o : Option Field) → types_of V t n ≡ o → HasDefaults o
    by None e = tt
    by (Some f) e = types_suit t n f e

pub built_defaults : (batches : List (List FileContent)) (after : List FileContent) → Builds batches after → HaveDefaults (types_of (view_of after))
built_defaults batches after built = have_defaults after (built_linked batches after built)

pub passes_before : (earlier : List (List FileContent)) (old new after : List FileContent) → Builds earlier old → AddsLawful old new after → (t : Text) (m : MessageFacts) → message_at (view_of old) t ≡ Some m
    → (bytes out : List ℕ) (x : Message) → Mean (types_of (view_of after)) t bytes x → IsRecoded (types_of (view_of old)) t bytes out → length out < 2 ^ 64 → Mean (types_of (view_of after)) t out x
passes_before earlier old new after built adds t m e bytes out x =
    passes (types_of (view_of old)) (types_of (view_of after)) t t bytes out x (grown_types earlier old new after built adds t m e) (built_defaults (new ∷ earlier) after (old, built, adds))
