-- What full names stand for, behind new files whose names have no fault.
use Rattle.std.proofs.Common.{◌≡◌, ◌<◌, ◌≤◌, ◌∙◌, ℕ, List, [], ◌∷◌, ◌++◌, Option, Some, None, map, length, ap, sym, subst, refl, arith}
use Rattle.std.specs.List.{AllByRecursion}
use Rattle.std.proofs.lemmas.List.{append-nil, length-map}
use Rattle.descriptor_records.specs.declared.file.FileDescriptorProto.{FileDescriptorProto}
use Rattle.reflect_build.specs.Refusals.{Linking, with_declared, IsOf}
use Rattle.reflect_index.proofs.Batched.{Stand, batch_stands, names_behind}
use Rattle.reflect_index.proofs.Orders.{AreUpTo}
use Rattle.reflect_known.specs.DeclaredNames.{with_names}
use Rattle.reflect_faults.specs.Faults.{batch_places}
use Rattle.reflect_names.specs.FileNames.{with_files, files_faults}
use Rattle.reflect_names.specs.NamePass.{faults_along}
use Rattle.reflect_passes.specs.NameFaults.{name_faults}
use Rattle.reflect_scope.specs.declared.definition.Definition.{Definition}
use Rattle.reflect_scope.specs.declared.definition.DefinitionKind.{DefinitionKind}
use Rattle.reflect_scope.specs.declared.definition.DefinitionKind.TheVariants as kind
use Rattle.reflect_tables.specs.Names.{Sort, messages, enums, extensions, services, FullName, AreFound, found, names_of, message_name, enum_name, extension_name, service_name, place_in, place_of, with_file}
use Rattle.reflect_tables.specs.Types.{PoolType, ArePooled, MessageWithin, EnumWithin, ExtensionWithin, ServiceWithin, counts_of}
use Rattle.reflect_declarations.specs.Batches.{batch_declarations}
use Rattle.reflect_declarations.specs.Declarations.{Declaration}
use Rattle.linked_view.proofs.Faults.{none_both}

-- what stands for a place of a sort is a definition that has it
pub found_place : (s : Sort) (o : Option Definition) (i file : ℕ) → place_in s o ≡ Some (i, file)
    → (d : Definition) × (o ≡ Some d) × (place_of s d.kind ≡ Some i)
found_place s None i file e = absurd (cc e)
found_place s (Some d) i file e = (d, refl, by (place_of s d.kind) refl) where
  by : (p : Option ℕ) → place_of s d.kind ≡ p → place_of s d.kind ≡ Some i
  by None is = absurd (cc (sym (ap (with_file d) is) ∙ e))
  by (Some j) is =
      let here : ◌≡◌ {A = Option (ℕ × ℕ)} (Some (j, d.file)) (Some (i, file)) =
      sym (ap (with_file d) is) ∙ e in
      let pair : ◌≡◌ {A = ℕ × ℕ} (j, d.file) (i, file) = cc here in
      is ∙ ap (λ (p : ℕ × ℕ). Some p.0) pair

pub message_place : (k : DefinitionKind) (i : ℕ) → place_of messages k ≡ Some i
    → k ≡ kind.Message i
message_place (kind.Message j) i e = let same : j ≡ i = cc e in ap kind.Message same
message_place k i e = absurd (cc e)

pub enum_place : (k : DefinitionKind) (i : ℕ) → place_of enums k ≡ Some i → k ≡ kind.Enum i
enum_place (kind.Enum j) i e = let same : j ≡ i = cc e in ap kind.Enum same
enum_place k i e = absurd (cc e)

up_to : {Y : Type 0} (name : Y → FullName) (P : Y → Type 0) (n : ℕ)
    → ((y : Y) → P y → (name y).1 ≤ n) → (ys : List Y) → AllByRecursion P ys
    → AreUpTo n (map name ys)
up_to name P n step [] all = tt
up_to name P n step (y ∷ ys) all = (step y all.0, up_to name P n step ys all.1)

module _ (old : PoolType) (ns : List FileDescriptorProto) (w : Linking) (is : IsOf old w)
    (pooled : ArePooled old) (names : name_faults w.indexes w.known w.before w.first ns ≡ []) where
  abbrev ds : List Declaration
  ds = batch_declarations w.before w.first ns

  none : faults_along (batch_places ns w.first) (with_files w.indexes w.first ns) w.known ds ≡ []
  none = (none_both (files_faults (batch_places ns w.first) w.indexes w.first ns)
      (faults_along (batch_places ns w.first) (with_files w.indexes w.first ns) w.known ds)
      names).1

  below : (n : ℕ) → n < length old.files → n ≤ w.first
  below n lt = let same = is.first in omega (arith, lt, same)

  -- the older names, which are of older files
  stands : (s : Sort) → Stand s w.known (names_of old s) w.first w.before
  stands messages = record {
    found = is.named.found messages;
    count = length-map old.messages message_name ∙ sym is.before.messages;
    up_to = up_to message_name (MessageWithin (counts_of old)) w.first (λ m h. below m.file h.file)
        old.messages pooled.messages;
    in_order = is.named.in_order messages;
  }
  stands enums = record {
    found = is.named.found enums;
    count = length-map old.enums enum_name ∙ sym is.before.enums;
    up_to = up_to enum_name (EnumWithin (counts_of old)) w.first (λ e h. below e.file h.file)
        old.enums pooled.enums;
    in_order = is.named.in_order enums;
  }
  stands extensions = record {
    found = is.named.found extensions;
    count = length-map old.extensions extension_name ∙ sym is.before.extensions;
    up_to = up_to extension_name (ExtensionWithin (counts_of old)) w.first
        (λ x h. below x.file h.file) old.extensions pooled.extensions;
    in_order = is.named.in_order extensions;
  }
  stands services = record {
    found = is.named.found services;
    count = length-map old.services service_name ∙ sym is.before.services;
    up_to = up_to service_name (ServiceWithin (counts_of old)) w.first (λ s h. below s.file h.file)
        old.services pooled.services;
    in_order = is.named.in_order services;
  }

  -- each stands for its place among the older ones and those that the files declare
  pub found_behind : (s : Sort) → AreFound (found s (with_declared w ns).known)
      (names_of old s ++ with_names s [] ds)
  found_behind s = subst (AreFound (found s (with_declared w ns).known))
      (ap (λ l. with_names s l ds) (sym (append-nil (names_of old s)))
      ∙ names_behind s (names_of old s) [] ds)
      (batch_stands s (batch_places ns w.first) (with_files w.indexes w.first ns) w.known
      (names_of old s) w.before w.first ns (stands s) none).found
