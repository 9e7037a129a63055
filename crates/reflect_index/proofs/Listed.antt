-- What messages and files declare themselves, as it is listed along a walk.
use Rattle.std.proofs.Common.{◌≡◌, ◌==◌, ℕ, ◌+◌, zero, suc, ◌<◌, List, [], ◌∷◌, ◌++◌, Bool, true, false, cond, map, length, get_or, ap, sym, ◌∙◌, append_assoc, arith, refl}
use Rattle.std.proofs.Math.ListN.{set}
use Rattle.std.proofs.lemmas.List.{append-nil, map-append, get_or-set_other}
use Rattle.std.proofs.lemmas.List.Elements.{filter-append}
use Rattle.std.proofs.lemmas.Grind.{get_or-set_at}
use Rattle.std.specs.List.{filter}
use Rattle.reflect_declarations.specs.Declarations.{Declaration, Body, of_file, of_message, of_enum, of_service, of_extension, Runs}
use Rattle.reflect_declarations.specs.declared.offsets.Offsets.{Offsets}
use Rattle.reflect_tables.specs.Types.{ChildPlaces, FilePlaces, no_children, no_places}
use Rattle.reflect_tables.specs.Views.{declared_of}
use Rattle.reflect_tables.specs.declared.stored.Child.TheVariants as child
use Rattle.reflect_index.specs.Along.{is_message, is_enum, is_service, is_extension, is_parent}
use Rattle.reflect_index.specs.Children.{is_outside, in_message, in_file, places, child_places, file_places, draft_children, children_at, places_at, with_child, with_place, with_service, AddsChild, AddsPlace}
use Rattle.reflect_index.specs.IndexSteps.{Lists}
use Rattle.reflect_index.specs.declared.visitor.IndexVisitor.{IndexVisitor}

-- another list at a place
pub changed : {X : Type 0} (none : X) (more : X → X) (xs : List X) (place first index : ℕ) (x : X) → first + place ≡ index → place < length xs → x ≡ more (get_or xs place none)
    → (k : ℕ) → get_or (set xs place x) k none ≡ cond (index == first + k) (more (get_or xs k none)) (get_or xs k none)
changed {X} none more xs place first index x sum inside is = λ k. by k (k == place) refl where
  by : (k : ℕ) (b : Bool) → (k == place) ≡ b → get_or (set xs place x) k none ≡ cond (index == first + k) (more (get_or xs k none)) (get_or xs k none)
  by k true same =
      let e : k ≡ place = grind (arith, same) in
      let here : (index == first + k) ≡ true = grind (arith, sum, e) in
      get_or-set_at xs place k x none e inside ∙ is ∙ ap (λ n. more (get_or xs n none)) (sym e) ∙ ap (λ b. cond b (more (get_or xs k none)) (get_or xs k none)) (sym here)
  by k false other =
      let apart : k ≡ place → ⊥ = λ e. absurd (grind (arith, other, e)) in
      let there : (index == first + k) ≡ false = grind (arith, sum, apart) in
      get_or-set_other xs place k x none apart ∙ ap (λ b. cond b (more (get_or xs k none)) (get_or xs k none)) (sym there)

-- one list more, which is empty
pub none_more : {X : Type 0} (none : X) (xs : List X) (k : ℕ) → get_or (xs ++ none ∷ []) k none ≡ get_or xs k none
none_more none [] zero = refl
none_more none [] (suc k) = refl
none_more none (x ∷ xs) zero = refl
none_more none (x ∷ xs) (suc k) = none_more none xs k

-- what is listed, and behind it what is listed later
abbrev pub both : ChildPlaces → ChildPlaces → ChildPlaces
both a b = record { messages = a.messages ++ b.messages; enums = a.enums ++ b.enums; extensions = a.extensions ++ b.extensions }

abbrev pub both_places : FilePlaces → FilePlaces → FilePlaces
both_places a b = record { children = both a.children b.children; services = a.services ++ b.services }

same_children : (a b : ChildPlaces) → a.messages ≡ b.messages → a.enums ≡ b.enums → a.extensions ≡ b.extensions → a ≡ b
same_children a b messages enums extensions = λ i. record { messages = messages i; enums = enums i; extensions = extensions i }

same_places : (a b : FilePlaces) → a.children ≡ b.children → a.services ≡ b.services → a ≡ b
same_places a b children services = λ i. record { children = children i; services = services i }

none_behind : (a : ChildPlaces) → a ≡ both a no_children
none_behind a = same_children a (both a no_children) (sym (append-nil a.messages)) (sym (append-nil a.enums)) (sym (append-nil a.extensions))

no_place_behind : (a : FilePlaces) → a ≡ both_places a no_places
no_place_behind a = same_places a (both_places a no_places) (none_behind a.children) (sym (append-nil a.services))

both_on : (a b c : ChildPlaces) → both (both a b) c ≡ both a (both b c)
both_on a b c = same_children (both (both a b) c) (both a (both b c)) (append_assoc a.messages b.messages c.messages) (append_assoc a.enums b.enums c.enums) (append_assoc a.extensions b.extensions c.extensions)

both_places_on : (a b c : FilePlaces) → both_places (both_places a b) c ≡ both_places a (both_places b c)
both_places_on a b c = same_places (both_places (both_places a b) c) (both_places a (both_places b c)) (both_on a.children b.children c.children) (append_assoc a.services b.services c.services)

places_on : (sort : Body → Bool) (xs ys : List Declaration) → places sort (xs ++ ys) ≡ places sort xs ++ places sort ys
places_on sort xs ys = ap (map (λ d. d.index)) (filter-append (λ (d : Declaration). sort d.body) xs ys) ∙ map-append (λ (d : Declaration). d.index) (filter (λ d. sort d.body) xs) (filter (λ d. sort d.body) ys)

children_on : (xs ys : List Declaration) → child_places (xs ++ ys) ≡ both (child_places xs) (child_places ys)
children_on xs ys = same_children (child_places (xs ++ ys)) (both (child_places xs) (child_places ys)) (places_on is_message xs ys) (places_on is_enum xs ys) (places_on is_extension xs ys)

files_on : (xs ys : List Declaration) → file_places (xs ++ ys) ≡ both_places (file_places xs) (file_places ys)
files_on xs ys = same_places (file_places (xs ++ ys)) (both_places (file_places xs) (file_places ys)) (children_on xs ys) (places_on is_service xs ys)

-- what a declaration changes in a list, by whether it belongs there
module _ (d : Declaration) where
  abbrev of : Body → Declaration
  of b = record { path = d.path; name = d.name; file = d.file; parent = d.parent; index = d.index; body = b }

  abbrev alone : Body → Bool → List Declaration
  alone b q = cond q (of b ∷ []) []

  abbrev child_change : Body → Bool → ChildPlaces → ChildPlaces
  child_change (of_message m) q a = cond q (with_child (child.Message d.index) a) a
  child_change (of_enum e) q a = cond q (with_child (child.Enum d.index) a) a
  child_change (of_extension x) q a = cond q (with_child (child.Extension d.index) a) a
  child_change _ q a = a

  child_listed : (b : Body) (q : Bool) (a : ChildPlaces) → child_change b q a ≡ both a (child_places (alone b q))
  child_listed (of_message m) true a = same_children (with_child (child.Message d.index) a) (both a (child_places (of (of_message m) ∷ []))) refl (sym (append-nil a.enums)) (sym (append-nil a.extensions))
  child_listed (of_message m) false a = none_behind a
  child_listed (of_enum e) true a = same_children (with_child (child.Enum d.index) a) (both a (child_places (of (of_enum e) ∷ []))) (sym (append-nil a.messages)) refl (sym (append-nil a.extensions))
  child_listed (of_enum e) false a = none_behind a
  child_listed (of_extension x) true a = same_children (with_child (child.Extension d.index) a) (both a (child_places (of (of_extension x) ∷ []))) (sym (append-nil a.messages)) (sym (append-nil a.enums)) refl
  child_listed (of_extension x) false a = none_behind a
  child_listed _ true a = none_behind a
  child_listed _ false a = none_behind a

  abbrev place_change : Body → Bool → FilePlaces → FilePlaces
  place_change (of_message m) q a = cond q (with_place (child.Message d.index) a) a
  place_change (of_enum e) q a = cond q (with_place (child.Enum d.index) a) a
  place_change (of_extension x) q a = cond q (with_place (child.Extension d.index) a) a
  place_change (of_service s) q a = cond q (with_service d.index a) a
  place_change _ q a = a

  place_listed : (b : Body) (q : Bool) (a : FilePlaces) → place_change b q a ≡ both_places a (file_places (alone b q))
  place_listed (of_message m) true a = same_places (with_place (child.Message d.index) a) (both_places a (file_places (of (of_message m) ∷ []))) (child_listed (of_message m) true a.children) (sym (append-nil a.services))
  place_listed (of_message m) false a = no_place_behind a
  place_listed (of_enum e) true a = same_places (with_place (child.Enum d.index) a) (both_places a (file_places (of (of_enum e) ∷ []))) (child_listed (of_enum e) true a.children) (sym (append-nil a.services))
  place_listed (of_enum e) false a = no_place_behind a
  place_listed (of_extension x) true a = same_places (with_place (child.Extension d.index) a) (both_places a (file_places (of (of_extension x) ∷ []))) (child_listed (of_extension x) true a.children) (sym (append-nil a.services))
  place_listed (of_extension x) false a = no_place_behind a
  place_listed (of_service s) true a = same_places (with_service d.index a) (both_places a (file_places (of (of_service s) ∷ []))) (none_behind a.children) refl
  place_listed (of_service s) false a = no_place_behind a
  place_listed _ true a = no_place_behind a
  place_listed _ false a = no_place_behind a

  module _ (first k : ℕ) where
    child_changes : (b : Body) (old new : List ChildPlaces) → AddsChild first old d b new → children_at new k ≡ child_change b (is_parent (first + k) d.parent) (children_at old k)
    child_changes (of_message m) old new h = h k
    child_changes (of_enum e) old new h = h k
    child_changes (of_extension x) old new h = h k
    child_changes _ old new h = ap (λ cs. children_at cs k) h

    place_changes : (b : Body) (old new : List FilePlaces) → AddsPlace first old d b new → places_at new k ≡ place_change b (is_outside (first + k) d.file d.parent) (places_at old k)
    place_changes (of_file f) old new h = ap (λ ps. places_at ps k) h ∙ none_more no_places old k
    place_changes (of_message m) old new h = h k
    place_changes (of_enum e) old new h = h k
    place_changes (of_extension x) old new h = h k
    place_changes (of_service s) old new h = h k
    place_changes _ old new h = ap (λ ps. places_at ps k) h

    child_step : (old new : List ChildPlaces) → AddsChild first old d d.body new → children_at new k ≡ both (children_at old k) (child_places (in_message (first + k) (d ∷ [])))
    child_step old new h = child_changes d.body old new h ∙ child_listed d.body (is_parent (first + k) d.parent) (children_at old k)

    place_step : (old new : List FilePlaces) → AddsPlace first old d d.body new → places_at new k ≡ both_places (places_at old k) (file_places (in_file (first + k) (d ∷ [])))
    place_step old new h = place_changes d.body old new h ∙ place_listed d.body (is_outside (first + k) d.file d.parent) (places_at old k)

abbrev children_by : ℕ → IndexVisitor → ChildPlaces
children_by k v = children_at (map draft_children v.drafts.messages.items) k

abbrev places_by : ℕ → IndexVisitor → FilePlaces
places_by k v = places_at (map declared_of v.drafts.files.items) k

pub all_children : (before : Offsets) (k : ℕ) (s : IndexVisitor) (ds : List Declaration) (t : IndexVisitor) → s.before ≡ before → Runs Lists s ds t
    → children_by k t ≡ both (children_by k s) (child_places (in_message (before.messages + k) ds))
all_children before k s [] t at e = ap (children_by k) e ∙ none_behind (children_by k s)
all_children before k s (d ∷ ds) t at (m, (step, rest)) =
    let i = before.messages + k in
    let one = child_places (in_message i (d ∷ [])) in
    let later = child_places (in_message i ds) in
    let here : children_by k m ≡ both (children_by k s) one =
    child_step d s.before.messages k (map draft_children s.drafts.messages.items) (map draft_children m.drafts.messages.items) step.nested
    ∙ ap (λ (o : Offsets). both (children_by k s) (child_places (in_message (o.messages + k) (d ∷ [])))) at in
    let split : child_places (in_message i (d ∷ ds)) ≡ both one later =
    ap child_places (filter-append (λ (x : Declaration). is_parent i x.parent) (d ∷ []) ds) ∙ children_on (in_message i (d ∷ [])) (in_message i ds) in
    all_children before k m ds t (step.before ∙ at) rest ∙ ap (λ a. both a later) here ∙ both_on (children_by k s) one later ∙ ap (both (children_by k s)) (sym split)

pub all_places : (first k : ℕ) (s : IndexVisitor) (ds : List Declaration) (t : IndexVisitor) → s.first ≡ first → Runs Lists s ds t
    → places_by k t ≡ both_places (places_by k s) (file_places (in_file (first + k) ds))
all_places first k s [] t at e = ap (places_by k) e ∙ no_place_behind (places_by k s)
all_places first k s (d ∷ ds) t at (m, (step, rest)) =
    let i = first + k in
    let one = file_places (in_file i (d ∷ [])) in
    let later = file_places (in_file i ds) in
    let here : places_by k m ≡ both_places (places_by k s) one =
    place_step d s.first k (map declared_of s.drafts.files.items) (map declared_of m.drafts.files.items) step.outside
    ∙ ap (λ n. both_places (places_by k s) (file_places (in_file (n + k) (d ∷ [])))) at in
    let split : file_places (in_file i (d ∷ ds)) ≡ both_places one later =
    ap file_places (filter-append (λ (x : Declaration). is_outside i x.file x.parent) (d ∷ []) ds) ∙ files_on (in_file i (d ∷ [])) (in_file i ds) in
    all_places first k m ds t (step.first ∙ at) rest ∙ ap (λ a. both_places a later) here ∙ both_places_on (places_by k s) one later ∙ ap (both_places (places_by k s)) (sym split)
