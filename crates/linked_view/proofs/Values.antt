-- The entries of a batch's enums are those of its records.
use Rattle.std.proofs.Common.{◌≡◌, ◌∙◌, ◌+◌, ℕ, ℤ, pos, List, [], ◌∷◌, ◌++◌, Option, Some, None, map, unwrap_or, cond, append_assoc, ap, sym, refl}
use Rattle.std.specs.List.{AllZip, flat_map}
use Rattle.descriptor_records.specs.Content.{Text, enum_view, enum_value_view, file_view}
use Rattle.descriptor_records.specs.declared.enums.EnumDescriptorProto.{EnumDescriptorProto}
use Rattle.descriptor_records.specs.declared.enums.EnumValueDescriptorProto.{EnumValueDescriptorProto}
use Rattle.descriptor_records.specs.declared.file.FileDescriptorProto.{FileDescriptorProto}
use Rattle.reflect_declarations.specs.declared.offsets.Offsets.{Offsets}
use Rattle.reflect_declarations.specs.Declarations.{Declaration, Body, of_file, of_message, of_field, of_oneof, of_enum, of_enum_value, of_service, of_method, of_extension, file_declarations, past_file}
use Rattle.reflect_declarations.specs.Batches.{batch_declarations}
use Rattle.reflect_index.specs.Along.{AtHand, Met, along, all_of, hand_behind, met, is_enum}
use Rattle.reflect_index.specs.Entries.{Head, IsHeadOf}
use Rattle.reflect_index.specs.Grown.{enum_head}
use Rattle.reflect_index.specs.OfDeclarations.{stored_value, stored_values, declared_value, declared_values, enum_in, enums_in}
use Rattle.reflect_tables.specs.Views.{enum_of, value_of}
use Rattle.reflect_tables.specs.declared.stored.StoredEnum.{StoredEnum}
use Rattle.schema_view.specs.Declarations as view
use Rattle.schema_view.specs.Lawful.{Meanings, all_linked}
use Rattle.schema_view.specs.References.{Reference, Target, dotted, linked}
use Rattle.schema_view.specs.Types.{number_in}
use Rattle.schema_view.proofs.Renames.{map_same, renamed, declarations_renamed}
use Rattle.linked_view.specs.Valued.{NamedValues, NumberedValue, kept_value, kept_values, numbered_value, values_in, written_values}
use Rattle.linked_view.proofs.Walked.{Seen, seen, told, text_seen, inner_declarations, file_seen}

-- of a declaration along a batch
abbrev pub values_by : Declaration → List NamedValues
values_by d = elim d.body [
  | of_file f ↦ []
  | of_message m ↦ []
  | of_field f ↦ []
  | of_oneof o ↦ []
  | of_enum e ↦ (d.name, map numbered_value (enum_view e).value) ∷ []
  | of_enum_value x ↦ []
  | of_service s ↦ []
  | of_method m ↦ []
  | of_extension x ↦ []
]

abbrev pub values_along : List Declaration → List NamedValues
values_along [] = []
values_along (d ∷ ds) = values_by d ++ values_along ds

number_seen : (o : Option ℤ) → elim o [ None ↦ pos 0 | Some z ↦ z ] ≡ unwrap_or o (pos 0)
number_seen None = refl
number_seen (Some z) = refl

value_seen : (v : EnumValueDescriptorProto) → numbered_value (enum_value_view v) ≡ declared_value v
value_seen v =
    ap (λ (n : Text). (n, number_in (enum_value_view v))) (text_seen v.name)
    ∙ ap (λ (z : ℤ). ((declared_value v).0, z)) (number_seen v.number)

-- an enum's values by its entry and by its record
same_values : (e : EnumDescriptorProto) (y : StoredEnum) → stored_values y ≡ declared_values e
    → map kept_value (enum_of y).values ≡ map numbered_value (enum_view e).value
same_values e y is =
    map_same kept_value value_of stored_value (λ v. refl) y.values.list.items
    ∙ is
    ∙ sym (map_same numbered_value enum_value_view declared_value value_seen e.value.items)

abbrev kept_by : StoredEnum → NamedValues
kept_by y = kept_values (enum_of y)

-- one declaration, and those behind it
one_kept : (h : AtHand) (d : Declaration) (b : Body) (ms : List Met) (es : List EnumDescriptorProto)
    (ks : List NamedValues) (ys : List StoredEnum)
    → ((xs : List StoredEnum) → AllZip IsHeadOf ms (map enum_head xs)
    → map stored_values xs ≡ map declared_values es → map kept_by xs ≡ ks)
    → AllZip IsHeadOf (cond (is_enum b) (met h (record d { body = b }) ∷ ms) ms) (map enum_head ys)
    → map stored_values ys ≡ map declared_values (enum_in b ++ es)
    → map kept_by ys ≡ values_by (record d { body = b }) ++ ks
one_kept h d (of_enum k) ms es ks [] later z e = absurd z
one_kept h d (of_enum k) ms es ks (y ∷ ys) later z e =
    let first : stored_values y ≡ declared_values k = cc e in
    let rest : map stored_values ys ≡ map declared_values es = cc e in
    ap (λ (n : Text). (n, map kept_value (enum_of y).values) ∷ map kept_by ys)
    (ap (λ (x : Head). x.full_name) z.0)
    ∙ ap (λ (vs : List NumberedValue). (d.name, vs) ∷ map kept_by ys) (same_values k y first)
    ∙ ap (λ xs. (d.name, map numbered_value (enum_view k).value) ∷ xs) (later ys z.1 rest)
one_kept h d b ms es ks ys later z e = later ys z e

pub values_kept : (h : AtHand) (ds : List Declaration) (ys : List StoredEnum)
    → AllZip IsHeadOf (all_of is_enum (along h ds)) (map enum_head ys)
    → map stored_values ys ≡ map declared_values (enums_in ds)
    → map kept_by ys ≡ values_along ds
values_kept h [] [] z e = refl
values_kept h [] (y ∷ ys) z e = absurd z
values_kept h (d ∷ ds) ys z e =
    one_kept h d d.body (all_of is_enum (along (hand_behind h d) ds)) (enums_in ds) (values_along ds) ys
    (λ xs k f. values_kept (hand_behind h d) ds xs k f) z e

values_both : (a b : List Declaration) → values_along (a ++ b) ≡ values_along a ++ values_along b
values_both [] b = refl
values_both (d ∷ a) b =
    ap (λ ks. values_by d ++ ks) (values_both a b)
    ∙ sym (append_assoc (values_by d) (values_along a) (values_along b))

abbrev values_seen : Seen → List NamedValues
values_seen s = elim s.1 [ None ↦ [] | Some b ↦ values_in (record { name = s.0; body = b }) ]

body_values : (d : Declaration) (b : Body) → values_by (record d { body = b })
    ≡ values_seen (seen (record d { body = b }))
body_values d (of_file x) = refl
body_values d b = refl

along_values : (ds : List Declaration) → values_along ds ≡ flat_map values_seen (map seen ds)
along_values [] = refl
along_values (d ∷ ds) =
    ap (λ ks. ks ++ values_along ds) (body_values d d.body)
    ∙ ap (λ ks. values_seen (seen d) ++ ks) (along_values ds)

told_values : (vs : List view.Declaration) → flat_map values_seen (map told vs)
    ≡ flat_map values_in vs
told_values [] = refl
told_values (v ∷ vs) = ap (λ ks. values_in v ++ ks) (told_values vs)

-- other names of what is referred to leave them
module _ (names : Reference → Target) where
  stay : (n : Text) (b : view.Body)
      → values_in (renamed names (record { name = n; body = b }))
      ≡ values_in (record { name = n; body = b })
  stay n (view.of_message m) = refl
  stay n b = refl

  all_stay : (vs : List view.Declaration) → flat_map values_in (map (renamed names) vs)
      ≡ flat_map values_in vs
  all_stay [] = refl
  all_stay (v ∷ vs) =
      ap (λ ks. ks ++ flat_map values_in (map (renamed names) vs)) (stay v.name v.body)
      ∙ ap (λ ks. values_in v ++ ks) (all_stay vs)

pub batch_values : (meanings : Meanings) (o : Offsets) (i : ℕ) (fs : List FileDescriptorProto)
    → values_along (batch_declarations o i fs)
    ≡ written_values (all_linked meanings (map file_view fs))
batch_values meanings o i [] = refl
batch_values meanings o i (f ∷ fs) =
    let c = file_view f in
    let names : Reference → Target = λ r. dotted (meanings c r) in
    let rest = batch_declarations (past_file o f) (i + 1) fs in
    let own : values_along (file_declarations o i f)
    ≡ flat_map values_in (view.declarations (linked (meanings c) c)) =
    along_values (inner_declarations o i f)
    ∙ ap (flat_map values_seen) (file_seen o i f)
    ∙ told_values (view.declarations c)
    ∙ sym (all_stay names (view.declarations c))
    ∙ ap (flat_map values_in) (sym (declarations_renamed names c)) in
    values_both (file_declarations o i f) rest
    ∙ ap (λ ks. ks ++ values_along rest) own
    ∙ ap (λ ks. flat_map values_in (view.declarations (linked (meanings c) c)) ++ ks)
    (batch_values meanings (past_file o f) (i + 1) fs)
