-- The numbers of the enum values of accepted files are those that the pool's types keep, which have
-- 32 bits.
use Rattle.std.proofs.Common.{◌≡◌, ◌∙◌, inl, inr, ◌+◌, ℕ, ℤ, pos, List, [], ◌∷◌, Some, map, unwrap_or, ap, sym, subst, refl}
use Rattle.std.specs.Prelude.{FitsSigned}
use Rattle.std.specs.Int.{w32}
use Rattle.std.specs.List.{Contains, AllByRecursion}
use Rattle.std.proofs.lemmas.List.Elements.{Contains-append_left, Contains-append_right}
use Rattle.descriptor_records.specs.Content.{EnumContent, EnumValueContent, FileContent, enum_value_view, enum_view, file_view}
use Rattle.descriptor_records.specs.declared.enums.EnumDescriptorProto.{EnumDescriptorProto}
use Rattle.descriptor_records.specs.declared.file.FileDescriptorProto.{FileDescriptorProto}
use Rattle.reflect_declarations.specs.declared.offsets.Offsets.{Offsets}
use Rattle.reflect_declarations.specs.Declarations.{Declaration, Body, of_enum, file_declaration}
use Rattle.reflect_declarations.specs.Batches.{batch_declarations}
use Rattle.reflect_index.specs.OfDeclarations.{NamedNumber, stored_value, stored_values, declared_value, declared_values, enum_in, enums_in}
use Rattle.reflect_tables.specs.Types.{PoolType, ValueType}
use Rattle.reflect_tables.specs.Views.{enum_of, value_of}
use Rattle.reflect_tables.specs.declared.stored.StoredEnum.{StoredEnum}
use Rattle.reflect_build.specs.Accepted.{FaultlessBatch}
use Rattle.reflect_build.specs.Refusals.{Linking}
use Rattle.message_view.specs.Sound.{HasNumbers, HaveNumbers}
use Rattle.schema_view.specs.Declarations as view
use Rattle.schema_view.proofs.Lists.{contains_here, contains_there, contains_cases, contains_none, contains_map, contains_map_cases}
use Rattle.linked_view.specs.Ruled.{Each}
use Rattle.linked_view.specs.Whole.{IsFitting}
use Rattle.linked_view.proofs.Completes.{mapped_all, all_mapped}
use Rattle.linked_view.proofs.Known.{file_batch}
use Rattle.linked_view.proofs.Named.{in_all, all_split}
use Rattle.linked_view.proofs.Paired.{file_paired}
use Rattle.linked_view.proofs.Places.{contains_get}
use Rattle.linked_view.proofs.Walked.{Seen, seen, seen_body, told, inner_declarations, file_seen}

abbrev Fits : NamedNumber → Type 0
Fits p = FitsSigned w32 p.1

abbrev AllFit : List NamedNumber → Type 0
AllFit ps = AllByRecursion Fits ps

-- of what is kept of an enum
stored_fit : (e : StoredEnum) → HasNumbers (enum_of e) → AllFit (stored_values e)
stored_fit e h =
    mapped_all stored_value Fits e.values.list.items
    (all_mapped value_of (λ (v : ValueType). FitsSigned w32 v.number) e.values.list.items h)

each_fit : (es : List StoredEnum) → AllByRecursion (λ (e : StoredEnum). HasNumbers (enum_of e)) es
    → AllByRecursion AllFit (map stored_values es)
each_fit [] h = tt
each_fit (e ∷ es) h = (stored_fit e h.0, each_fit es h.1)

-- an enum among declarations
enum_there : (ds : List Declaration) (d : Declaration) (e : EnumDescriptorProto) → Contains ds d
    → d.body ≡ of_enum e → Contains (enums_in ds) e
enum_there [] d e h is = absurd (contains_none d h)
enum_there (x ∷ ds) d e h is = elim (contains_cases x ds d h) [
  | inl same ↦ (
      let own : x.body ≡ of_enum e = ap (λ (y : Declaration). y.body) same ∙ is in
      Contains-append_left (enum_in x.body) (enums_in ds) e
      (subst (λ b. Contains (enum_in b) e) (sym own) (contains_here e [])))
  | inr j ↦ Contains-append_right (enum_in x.body) (enums_in ds) e (enum_there ds d e j is)
]

-- an enum of the content is one of the record
enum_of_body : (b : Body) (e : EnumContent) → seen_body b ≡ Some (view.of_enum e)
    → (x : EnumDescriptorProto) × (b ≡ of_enum x) × (enum_view x ≡ e)
enum_of_body (of_enum x) e is = (x, refl, cc is)
enum_of_body b e is = absurd (cc is)

module _ (o : Offsets) (first : ℕ) (files : List FileDescriptorProto)
    (fit : AllByRecursion (λ (e : EnumDescriptorProto). AllFit (declared_values e))
    (enums_in (batch_declarations o first files))) where
  value_fits : (c : FileContent) (d : view.Declaration) (v : EnumValueContent)
      → Contains (map file_view files) c → Contains (view.declarations c) d
      → d.body ≡ view.of_value v → (n : ℤ) → v.number ≡ Some n → FitsSigned w32 n
  value_fits c d v i j is n number =
      let f = contains_map_cases file_view files c i in
      let at = contains_get files f.0 f.1 in
      let batch = file_batch o first files at.0 f.0 at.1 in
      let inner = inner_declarations batch.0 (first + at.0) f.0 in
      let content = view.declarations (file_view f.0) in
      let j' : Contains content d = subst (λ x. Contains (view.declarations x) d) (sym f.2) j in
      let p = (file_paired (file_view f.0)).enums d v j' is in
      let s = subst (λ l. Contains l (told p.0)) (sym (file_seen batch.0 (first + at.0) f.0))
      (contains_map told content p.0 p.2) in
      let x = contains_map_cases seen inner (told p.0) s in
      let body : seen_body x.0.body ≡ Some (view.of_enum p.1) =
      ap (λ (y : Seen). y.1) x.2 ∙ ap Some p.3 in
      let e = enum_of_body x.0.body p.1 body in
      let there = enum_there (batch_declarations o first files) x.0 e.0
      (batch.1 x.0 (contains_there (file_declaration [] (first + at.0) f.0) inner x.0 x.1)) e.1 in
      let fits = in_all (λ (y : EnumDescriptorProto). AllFit (declared_values y))
      (enums_in (batch_declarations o first files)) fit e.0 there in
      let k : Contains (enum_view e.0).value v =
      subst (λ (y : EnumContent). Contains y.value v) (sym e.2) p.4 in
      let own = contains_map_cases enum_value_view e.0.value.items v k in
      let one = in_all Fits (declared_values e.0) fits (declared_value own.0)
      (contains_map declared_value e.0.value.items own.0 own.1) in
      let same : own.0.number ≡ Some n = ap (λ (y : EnumValueContent). y.number) own.2 ∙ number in
      subst (λ m. FitsSigned w32 (unwrap_or m (pos 0))) same one

  fitting_one : (c : FileContent) (d : view.Declaration) → Contains (map file_view files) c
      → Contains (view.declarations c) d → (b : view.Body) → d.body ≡ b → IsFitting b
  fitting_one c d i j (view.of_value v) is = value_fits c d v i j is
  fitting_one c d i j b is = tt

  files_fit : Each IsFitting (map file_view files)
  files_fit c d i j = fitting_one c d i j d.body refl

pub batch_fits : (w : Linking) (files : List FileDescriptorProto) (new : PoolType)
    → FaultlessBatch w files new → HaveNumbers new → Each IsFitting (map file_view files)
batch_fits w files new batch numbers =
    let es = batch.types.new.now.enums.items in
    let parts = all_split HasNumbers _ (map enum_of es)
    (subst (AllByRecursion HasNumbers) batch.added.enums numbers) in
    let stored = each_fit es (all_mapped enum_of HasNumbers es parts.1) in
    files_fit w.before w.first files
    (all_mapped declared_values AllFit (enums_in (batch_declarations w.before w.first files))
    (subst (AllByRecursion AllFit) batch.declared.values stored))
