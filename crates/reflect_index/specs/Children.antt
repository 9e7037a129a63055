-- What a message or a file declares itself, and how this is listed along a walk.
use Rattle.std.specs.Prelude.{◌≡◌, ◌==◌, ◌+◌, ◌++◌, ℕ, List, [], ◌∷◌, map, Bool, false, cond, Option, None, Some, slice_index_or}
use Rattle.std.specs.List.{filter}
use Rattle.reflect_declarations.specs.Declarations.{Declaration, Body, of_file, of_message, of_enum, of_service, of_extension}
use Rattle.reflect_tables.specs.Types.{ChildPlaces, FilePlaces, no_children, no_places}
use Rattle.reflect_tables.specs.Views.{children_of}
use Rattle.reflect_tables.specs.declared.stored.Child.{Child}
use Rattle.reflect_tables.specs.declared.stored.Child.TheVariants as child
use Rattle.reflect_tables.specs.declared.stored.StoredMessage.{StoredMessage}
use Rattle.reflect_index.specs.Along.{is_message, is_enum, is_service, is_extension, is_parent}
use Rattle.reflect_index.specs.DraftNames.{draft_name}
use Rattle.reflect_index.specs.Grown.{draft_fields, draft_oneofs, draft_head}
use Rattle.reflect_index.specs.OfDeclarations.{draft_ranges}
use Rattle.reflect_index.specs.declared.drafts.MessageDraft.{MessageDraft}

-- the file of the index declares it, outside of messages
abbrev pub is_outside : ℕ → ℕ → Option ℕ → Bool
is_outside i file None = file == i
is_outside i file (Some j) = false

-- what the message of an index declares
abbrev pub in_message : ℕ → List Declaration → List Declaration
in_message i ds = filter (λ d. is_parent i d.parent) ds

-- what the file of an index declares outside of messages
abbrev pub in_file : ℕ → List Declaration → List Declaration
in_file i ds = filter (λ d. is_outside i d.file d.parent) ds

-- the indexes of the declarations of a sort, which are their places in the pool
abbrev pub places : (Body → Bool) → List Declaration → List ℕ
places sort ds = map (λ d. d.index) (filter (λ d. sort d.body) ds)

-- the types and extensions among declarations
abbrev pub child_places : List Declaration → ChildPlaces
child_places ds = record {
  messages = places is_message ds;
  enums = places is_enum ds;
  extensions =
      places is_extension ds;
}

-- and the services
abbrev pub file_places : List Declaration → FilePlaces
file_places ds = record { children = child_places ds; services = places is_service ds }

abbrev pub draft_children : MessageDraft → ChildPlaces
draft_children m = children_of m.children

abbrev pub stored_children : StoredMessage → ChildPlaces
stored_children m = children_of m.children

-- all else of messages stays
pub record KeepsRest (old new : List MessageDraft) : Type 0 where
  pub names : map draft_name new ≡ map draft_name old
  pub ranges : map draft_ranges new ≡ map draft_ranges old
  pub heads : map draft_head new ≡ map draft_head old
  pub fields : map draft_fields new ≡ map draft_fields old
  pub oneofs : map draft_oneofs new ≡ map draft_oneofs old

-- what is listed at a place, which is nothing where there is no list
abbrev pub children_at : List ChildPlaces → ℕ → ChildPlaces
children_at cs k = slice_index_or cs k no_children

abbrev pub places_at : List FilePlaces → ℕ → FilePlaces
places_at ps k = slice_index_or ps k no_places

-- one more of its sort, behind the others
abbrev pub with_child : Child → ChildPlaces → ChildPlaces
with_child (child.Message i) c = record c { messages = c.messages ++ i ∷ [] }
with_child (child.Enum i) c = record c { enums = c.enums ++ i ∷ [] }
with_child (child.Extension i) c = record c { extensions = c.extensions ++ i ∷ [] }

abbrev pub with_place : Child → FilePlaces → FilePlaces
with_place c p = record p { children = with_child c p.children }

abbrev pub with_service : ℕ → FilePlaces → FilePlaces
with_service i p = record p { services = p.services ++ i ∷ [] }

-- in the list of its parent, where the first list is that of the message of this index
abbrev pub ListsIn : ℕ → Option ℕ → Child → List ChildPlaces → List ChildPlaces → Type 0
ListsIn first parent c old new =
    (k : ℕ) → children_at new k ≡ cond (is_parent (first + k) parent)
    (with_child c (children_at old k)) (children_at old k)

-- in the list of its file, where no message declares it
abbrev pub ListsOutside : ℕ → ℕ → Option ℕ → (FilePlaces → FilePlaces) → List FilePlaces
    → List FilePlaces → Type 0
ListsOutside first file parent more old new =
    (k : ℕ) → places_at new k ≡ cond (is_outside (first + k) file parent) (more (places_at old k))
    (places_at old k)

-- the lists of messages behind a declaration
abbrev pub AddsChild : ℕ → List ChildPlaces → Declaration → Body → List ChildPlaces → Type 0
AddsChild first old d (of_message m) new = ListsIn first d.parent (child.Message d.index) old new
AddsChild first old d (of_enum e) new = ListsIn first d.parent (child.Enum d.index) old new
AddsChild first old d (of_extension x) new =
    ListsIn first d.parent (child.Extension d.index) old new
AddsChild first old d _ new = new ≡ old

-- those of files, each of which begins with nothing
abbrev pub AddsPlace : ℕ → List FilePlaces → Declaration → Body → List FilePlaces → Type 0
AddsPlace first old d (of_file f) new = new ≡ old ++ no_places ∷ []
AddsPlace first old d (of_message m) new =
    ListsOutside first d.file d.parent (with_place (child.Message d.index)) old new
AddsPlace first old d (of_enum e) new =
    ListsOutside first d.file d.parent (with_place (child.Enum d.index)) old new
AddsPlace first old d (of_extension x) new =
    ListsOutside first d.file d.parent (with_place (child.Extension d.index)) old new
AddsPlace first old d (of_service s) new =
    ListsOutside first d.file d.parent (with_service d.index) old new
AddsPlace first old d _ new = new ≡ old
