-- What a walk of the visitor of references leaves.
use Rattle.std.proofs.Common.{◌≡◌, ◌<◌, ◌≤◌, ◌↔◌, ℕ, zero, suc, ℤ, pos, List, [], ◌∷◌, ◌++◌, ◌+◌, map, ap, sym, ◌∙◌, subst, append_assoc, arith, refl, Bool, true, false, cond, nat_lt, IsTrue, Option, Some, None, length}
use Rattle.std.proofs.Math.Path.{fun_ext}
use Rattle.std.proofs.lemmas.List.{append-nil}
use Rattle.reflect_scope.specs.Means.{join}
use Rattle.reflect_scope.specs.Seen.{tells}
use Rattle.reflect_scope.specs.Sees.{Sees}
use Rattle.reflect_scope.specs.declared.seen.Links.{Links}
use Rattle.descriptor_records.specs.declared.file.FileDescriptorProto.{FileDescriptorProto}
use Rattle.reflect_declarations.specs.declared.offsets.Offsets.{Offsets}
use Rattle.reflect_declarations.specs.Batches.{batch_declarations, KeptBy}
use Rattle.reflect_declarations.specs.Tree.{text_of, Message, message, Messages, no_messages, more_messages}
use Rattle.reflect_declarations.specs.Declarations.{Declaration, Body, of_file, of_message, of_field, of_oneof, of_enum, of_enum_value, of_service, of_method, of_extension, Runs, each, entry, one_field, one_oneof, one_value, one_enum, one_method, one_service, one_extension, tree_declarations, trees_declarations, trees_of, past_message, past_tree, past_trees, past_file, file_declarations}
use Rattle.reflect_walk.proofs.Walks.{runs_split}
use Rattle.reflect_faults.specs.Faults.{Adds, place_at}
use Rattle.reflect_scope.specs.Known.{known_of}
use Rattle.reflect_names.specs.Names.{Places}
use Rattle.reflect_names.specs.References.{View, targets_of, reference_faults_at}
use Rattle.reflect_names.specs.ReferencePass.{AreSeen, SeeNoOthers, views_of, targets_along, reference_faults_along}
use Rattle.reflect_names.specs.ReferenceSteps.{Refers, Finds, Looks, ResolvesFiles, Stays, view_of, target_of}
use Rattle.reflect_names.specs.declared.resolve_visitor.ResolveVisitor.{ResolveVisitor}
use Rattle.reflect_faults.proofs.Added.{adds_none, same_places}
use Rattle.reflect_names.proofs.Found.{finds_on}

abbrev is_file : Body → Bool
is_file (of_file f) = true
is_file _ = false

-- the declarations are of this file, and none of them is the file itself
abbrev AreParts : ℕ → List Declaration → Type 0
AreParts file [] = Unit {0}
AreParts file (d ∷ ds) = ((is_file d.body ≡ false) × (d.file ≡ file)) × AreParts file ds

parts_append : (file : ℕ) (a b : List Declaration) → AreParts file a → AreParts file b → AreParts file (a ++ b)
parts_append file [] b p q = q
parts_append file (d ∷ a) b p q = (p.0, parts_append file a b p.1 q)

parts_each : {A : Type 0} (file : ℕ) (one : ℕ → A → List Declaration) → ((k : ℕ) (x : A) → AreParts file (one k x)) → (i : ℕ) (xs : List A) → AreParts file (each one i xs)
parts_each file one p i [] = tt
parts_each file one p i (x ∷ xs) = parts_append file (one i x) (each one (i + 1) xs) (p i x) (parts_each file one p (i + 1) xs)

enum_parts : (path : List ℤ) (tag : ℤ) (scope : List ℕ) (file : ℕ) (parent : Option ℕ) (first k : ℕ) (e : _) → AreParts file (one_enum path tag scope file parent first k e)
enum_parts path tag scope file parent first k e = ((refl, refl), parts_each file (one_value (entry path tag k) scope file (first + k)) (λ i x. ((refl, refl), tt)) 0 e.value.items)

service_parts : (scope : List ℕ) (file first k : ℕ) (s : _) → AreParts file (one_service scope file first k s)
service_parts scope file first k s = ((refl, refl), parts_each file (one_method (entry [] (pos 6) k) (join scope (text_of s.name)) file (first + k)) (λ i x. ((refl, refl), tt)) 0 s.method.items)

mutual
  tree_parts : (path : List ℤ) (scope : List ℕ) (file : ℕ) (parent : Option ℕ) (o : Offsets) (m : Message) → AreParts file (tree_declarations path scope file parent o m)
  tree_parts path scope file parent o (message own nested) =
      let full = join scope (text_of own.name) in
      let i = o.messages in
      let behind = past_trees (past_message o) nested in (
        (refl, refl),
        parts_append file _ _ (parts_each file (one_field path full file i) (λ k x. ((refl, refl), tt)) 0 own.field)
            (parts_append file _ _ (trees_parts path (pos 3) full file (Some i) 0 (past_message o) nested)
            (parts_append file _ _ (parts_each file (one_enum path (pos 4) full file (Some i) behind.enums) (λ k x. enum_parts path (pos 4) full file (Some i) behind.enums k x) 0 own.enum_type)
            (parts_append file _ _ (parts_each file (one_extension path (pos 6) full file (Some i) behind.extensions) (λ k x. ((refl, refl), tt)) 0 own.extension)
            (parts_each file (one_oneof path full file i) (λ k x. ((refl, refl), tt)) 0 own.oneof_decl)))),
      )

  trees_parts : (path : List ℤ) (tag : ℤ) (scope : List ℕ) (file : ℕ) (parent : Option ℕ) (k : ℕ) (o : Offsets) (ms : Messages) → AreParts file (trees_declarations path tag scope file parent k o ms)
  trees_parts path tag scope file parent k o no_messages = tt
  trees_parts path tag scope file parent k o (more_messages m ms) =
      parts_append file _ _ (tree_parts (entry path tag k) scope file parent o m) (trees_parts path tag scope file parent (k + 1) (past_tree o m) ms)

-- the declarations of a file behind its own
abbrev parts : Offsets → ℕ → FileDescriptorProto → List Declaration
parts o file f =
    trees_declarations [] (pos 4) (text_of f.package) file None 0 o (trees_of f)
    ++ (each (one_enum [] (pos 5) (text_of f.package) file None (past_trees o (trees_of f)).enums) 0 f.enum_type.items
    ++ (each (one_service (text_of f.package) file o.services) 0 f.service.items
    ++ each (one_extension [] (pos 7) (text_of f.package) file None (past_trees o (trees_of f)).extensions) 0 f.extension.items))

are_parts : (o : Offsets) (file : ℕ) (f : FileDescriptorProto) → AreParts file (parts o file f)
are_parts o file f =
    let scope = text_of f.package in
    let behind = past_trees o (trees_of f) in
    parts_append file _ _ (trees_parts [] (pos 4) scope file None 0 o (trees_of f))
    (parts_append file _ _ (parts_each file (one_enum [] (pos 5) scope file None behind.enums) (λ k x. enum_parts [] (pos 5) scope file None behind.enums k x) 0 f.enum_type.items)
    (parts_append file _ _ (parts_each file (one_service scope file o.services) (λ k x. service_parts scope file o.services k x) 0 f.service.items)
    (parts_each file (one_extension [] (pos 7) scope file None behind.extensions) (λ k x. ((refl, refl), tt)) 0 f.extension.items)))

stays : (s : ResolveVisitor) (d : Declaration) (t : ResolveVisitor) → is_file d.body ≡ false → Looks s d t → tells t.seen ≡ tells s.seen
stays s d t part looks = by d.body part looks where
  by : (b : Body) → is_file b ≡ false → Looks s (record d { body = b }) t → tells t.seen ≡ tells s.seen
  by (of_file f) e l = absurd (cc)
  by (of_message x) e l = l
  by (of_field x) e l = l
  by (of_oneof x) e l = l
  by (of_enum x) e l = l
  by (of_enum_value x) e l = l
  by (of_service x) e l = l
  by (of_method x) e l = l
  by (of_extension x) e l = l

-- a walk over parts finds what they refer to
ran : (views : ℕ → View) (file : ℕ) (s : ResolveVisitor) (ds : List Declaration) (t : ResolveVisitor) → AreParts file ds → view_of s ≡ views file → Runs Refers s ds t
    → Finds s t (targets_along views ds) (reference_faults_along (place_at s.faults) views ds)
ran views file s [] t parts view e = record {
  references = ap (λ x. map target_of x.references.items) e ∙ sym (append-nil _);
  faults = subst (λ x. Adds s.faults x []) (ap (λ x. x.faults) (sym e)) (adds_none s.faults);
}
ran views file s (d ∷ ds) t parts view (m, (step, rest)) =
    let seen = stays s d m parts.0.0 step.looks in
    let same : view_of m ≡ view_of s = ap {B = View} (λ x. record { known = known_of x; sees = tells m.seen }) step.names ∙ ap {B = View} (λ f. record { known = known_of s.names.now; sees = f }) seen in
    let here : view_of s ≡ views d.file = view ∙ ap views (sym parts.0.1) in
    let places : place_at m.faults ≡ place_at s.faults = fun_ext (same_places s.faults m.faults _ step.faults) in
    let later = subst (λ p. Finds m t (targets_along views ds) (reference_faults_along p views ds)) places (ran views file m ds t parts.1 (same ∙ view) rest) in
    let now = subst (λ v. Finds s m (targets_of v d) (reference_faults_at (place_at s.faults d.file) v d)) here (record { references = step.references; faults = step.faults }) in
    finds_on s m t _ _ _ _ now later

-- a walk leaves the names and the links
still : (s : ResolveVisitor) (ds : List Declaration) (t : ResolveVisitor) → Runs Refers s ds t → Stays 0 s t
still s [] t e = record { names = ap (λ x. x.names.now) e; links = ap (λ x. x.links.now) e }
still s (d ∷ ds) t (m, (step, rest)) = let later = still m ds t rest in record { names = later.names ∙ step.names; links = later.links ∙ step.links }

-- the walk over a file
record Resolved (s : ResolveVisitor) (o : Offsets) (file : ℕ) (f : FileDescriptorProto) (t : ResolveVisitor) : Type 0 where
  sees : ℕ → Bool
  right : (g : ℕ) → g < length s.links.now → (IsTrue (sees g) ↔ Sees s.links.now file g)
  others : (g : ℕ) → length s.links.now ≤ g → sees g ≡ false
  finds : (views : ℕ → View) → views file ≡ record { known = known_of s.names.now; sees = sees } → Finds s t (targets_along views (file_declarations o file f)) (reference_faults_along (place_at s.faults) views (file_declarations o file f))

resolved : (s : ResolveVisitor) (o : Offsets) (file : ℕ) (f : FileDescriptorProto) (t : ResolveVisitor) → Runs Refers s (file_declarations o file f) t → Resolved s o file f t
resolved s o file f t (m, (step, rest)) =
    let view : view_of m ≡ record { known = known_of s.names.now; sees = tells m.seen } = ap {B = View} (λ x. record { known = known_of x; sees = tells m.seen }) step.names in
    let places : place_at m.faults ≡ place_at s.faults = fun_ext (same_places s.faults m.faults _ step.faults) in
    record {
      sees = tells m.seen;
      right = step.looks.0;
      others = step.looks.1;
      finds = λ views is.
          let later = subst (λ p. Finds m t (targets_along views (parts o file f)) (reference_faults_along p views (parts o file f))) places (ran views file m (parts o file f) t (are_parts o file f) (view ∙ sym is) rest) in
          finds_on s m t [] _ [] _ (record { references = step.references; faults = step.faults }) later;
    }

-- none of the declarations is of a file before this one
abbrev AreFrom : ℕ → List Declaration → Type 0
AreFrom i [] = Unit {0}
AreFrom i (d ∷ ds) = (i ≤ d.file) × AreFrom i ds

from_append : (i : ℕ) (a b : List Declaration) → AreFrom i a → AreFrom i b → AreFrom i (a ++ b)
from_append i [] b p q = q
from_append i (d ∷ a) b p q = (p.0, from_append i a b p.1 q)

parts_from : (i file : ℕ) (ds : List Declaration) → i ≤ file → AreParts file ds → AreFrom i ds
parts_from i file [] le p = tt
parts_from i file (d ∷ ds) le p = (subst (λ f. i ≤ f) (sym p.0.1) le, parts_from i file ds le p.1)

batch_from : (o : Offsets) (i first : ℕ) (fs : List FileDescriptorProto) → i ≤ first → AreFrom i (batch_declarations o first fs)
batch_from o i first [] le = tt
batch_from o i first (f ∷ fs) le =
    from_append i (file_declarations o first f) _ (le, parts_from i first (parts o first f) le (are_parts o first f)) (batch_from (past_file o f) i (first + 1) fs (omega arith))

-- the views of files before do not matter
module _ (v w : ℕ → View) (i : ℕ) (same : (j : ℕ) → i ≤ j → v j ≡ w j) where
  same_targets : (ds : List Declaration) → AreFrom i ds → targets_along v ds ≡ targets_along w ds
  same_targets [] p = refl
  same_targets (d ∷ ds) p = ap (λ x. targets_of x d ++ targets_along v ds) (same d.file p.0) ∙ ap (λ l. targets_of (w d.file) d ++ l) (same_targets ds p.1)

  same_faults : (at : ℕ → Places) (ds : List Declaration) → AreFrom i ds → reference_faults_along at v ds ≡ reference_faults_along at w ds
  same_faults at [] p = refl
  same_faults at (d ∷ ds) p =
      ap (λ x. reference_faults_at (at d.file) x d ++ reference_faults_along at v ds) (same d.file p.0)
      ∙ ap (λ l. reference_faults_at (at d.file) (w d.file) d ++ l) (same_faults at ds p.1)

targets_append : (views : ℕ → View) (a b : List Declaration) → targets_along views (a ++ b) ≡ targets_along views a ++ targets_along views b
targets_append views [] b = refl
targets_append views (d ∷ a) b = ap (λ l. targets_of (views d.file) d ++ l) (targets_append views a b) ∙ sym (append_assoc (targets_of (views d.file) d) (targets_along views a) (targets_along views b))

faults_append : (at : ℕ → Places) (views : ℕ → View) (a b : List Declaration) → reference_faults_along at views (a ++ b) ≡ reference_faults_along at views a ++ reference_faults_along at views b
faults_append at views [] b = refl
faults_append at views (d ∷ a) b =
    let one = reference_faults_at (at d.file) (views d.file) d in
    ap (λ l. one ++ l) (faults_append at views a b) ∙ sym (append_assoc one (reference_faults_along at views a) (reference_faults_along at views b))

-- the first file sees this, and those behind it that
abbrev sees_with : ℕ → (ℕ → Bool) → (ℕ → ℕ → Bool) → ℕ → ℕ → Bool
sees_with i here later j = cond (nat_lt i j) (later j) here

first_sees : (i : ℕ) (here : ℕ → Bool) (later : ℕ → ℕ → Bool) → sees_with i here later i ≡ here
first_sees i here later = let e : nat_lt i i ≡ false = grind arith in ap (λ b. cond b (later i) here) e

later_see : (i j : ℕ) (here : ℕ → Bool) (later : ℕ → ℕ → Bool) → i + 1 ≤ j → sees_with i here later j ≡ later j
later_see i j here later le = let e : nat_lt i j ≡ true = grind arith in ap (λ b. cond b (later j) here) e

all_seen : (links : List Links) (i n : ℕ) (here : ℕ → Bool) (later : ℕ → ℕ → Bool) → ((g : ℕ) → g < length links → (IsTrue (here g) ↔ Sees links i g))
    → AreSeen links (i + 1) n later → AreSeen links i (suc n) (sees_with i here later)
all_seen links i n here later one others f g low high lt = by (nat_lt i f) refl where
  by : (b : Bool) → nat_lt i f ≡ b → (IsTrue (sees_with i here later f g) ↔ Sees links f g)
  by true is =
      let behind : i + 1 ≤ f = grind arith in
      subst (λ x. IsTrue (x g) ↔ Sees links f g) (sym (later_see i f here later behind)) (others f g behind (omega arith) lt)
  by false is =
      let same : i ≡ f = grind arith in
      subst (λ j. IsTrue (sees_with i here later j g) ↔ Sees links j g) same (subst (λ x. IsTrue (x g) ↔ Sees links i g) (sym (first_sees i here later)) (one g lt))

no_others : (links : List Links) (i n : ℕ) (here : ℕ → Bool) (later : ℕ → ℕ → Bool) → ((g : ℕ) → length links ≤ g → here g ≡ false)
    → SeeNoOthers links (i + 1) n later → SeeNoOthers links i (suc n) (sees_with i here later)
no_others links i n here later one behind f g low high le = by (nat_lt i f) refl where
  by : (b : Bool) → nat_lt i f ≡ b → sees_with i here later f g ≡ false
  by true is =
      let after : i + 1 ≤ f = grind arith in
      ap (λ (x : ℕ → Bool). x g) (later_see i f here later after) ∙ behind f g after (omega arith) le
  by false is =
      let same : i ≡ f = grind arith in
      subst (λ j. sees_with i here later j g ≡ false) same (ap (λ (x : ℕ → Bool). x g) (first_sees i here later) ∙ one g le)

-- a walk over files finds what they refer to
pub resolved_files : (s : ResolveVisitor) (o : Offsets) (i : ℕ) (fs : List FileDescriptorProto) (t : ResolveVisitor) → Runs Refers s (batch_declarations o i fs) t → ResolvesFiles s o i fs t
resolved_files s o i [] t e = record {
  means = [];
  wrong = [];
  right = record { sees = λ f g. false; right = λ f g low high lt. absurd (omega (arith, low, high)); others = λ f g low high le. absurd (omega (arith, low, high)); targets = refl; faults = refl };
  finds = record {
    references = ap (λ x. map target_of x.references.items) e ∙ sym (append-nil _);
    faults = subst (λ x. Adds s.faults x []) (ap (λ x. x.faults) (sym e)) (adds_none s.faults);
  };
}
resolved_files s o i (f ∷ fs) t run =
    let one = file_declarations o i f in
    let others = batch_declarations (past_file o f) (i + 1) fs in
    let cut = runs_split Refers one others s t run in
    let m = cut.0 in
    let here = resolved s o i f m cut.1.0 in
    let later = resolved_files m (past_file o f) (i + 1) fs t cut.1.1 in
    let stay = still s one m cut.1.0 in
    let known = known_of s.names.now in
    let sees = sees_with i here.sees later.right.sees in
    let views = views_of known sees in
    let found = here.finds views (ap {B = View} (λ x. record { known = known; sees = x }) (first_sees i here.sees later.right.sees)) in
    let places : place_at m.faults ≡ place_at s.faults = fun_ext (same_places s.faults m.faults _ found.faults) in
    let old : ℕ → View = views_of (known_of m.names.now) later.right.sees in
    let same : (j : ℕ) → i + 1 ≤ j → old j ≡ views j = λ j le.
    ap {B = View} (λ x. record { known = known_of x; sees = later.right.sees j }) stay.names
    ∙ ap {B = View} (λ x. record { known = known; sees = x }) (sym (later_see i j here.sees later.right.sees le)) in
    let from = batch_from (past_file o f) (i + 1) (i + 1) fs (omega arith) in
    let targets = later.right.targets ∙ same_targets old views (i + 1) same others from in
    let faults = later.right.faults ∙ ap (λ at. reference_faults_along at old others) places ∙ same_faults old views (i + 1) same (place_at s.faults) others from in
    record {
      means = targets_along views one ++ later.means;
      wrong = reference_faults_along (place_at s.faults) views one ++ later.wrong;
      right = record {
        sees = sees;
        right = all_seen s.links.now i (length fs) here.sees later.right.sees here.right (subst (λ l. AreSeen l (i + 1) (length fs) later.right.sees) stay.links later.right.right);
        others = no_others s.links.now i (length fs) here.sees later.right.sees here.others (subst (λ l. SeeNoOthers l (i + 1) (length fs) later.right.sees) stay.links later.right.others);
        targets = ap (λ l. targets_along views one ++ l) targets ∙ sym (targets_append views one others);
        faults = ap (λ l. reference_faults_along (place_at s.faults) views one ++ l) faults ∙ sym (faults_append (place_at s.faults) views one others);
      };
      finds = finds_on s m t _ _ _ _ found later.finds;
    }

-- a walk over files leaves the names and the links, whether it ends early or not
pub stayed : (i n : ℕ) (s t : ResolveVisitor) → KeptBy Stays i n s t → Stays i s t
stayed i zero s t e = record { names = ap (λ x. x.names.now) e; links = ap (λ x. x.links.now) e }
stayed i (suc n) s t (m, before, now) = let r = stayed i n s m before in record { names = now.names ∙ r.names; links = now.links ∙ r.links }
