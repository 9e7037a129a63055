-- The names of a pool as it grows and is cut back.
use Rattle.std.proofs.Common.{◌≡◌, ◌<◌, ℕ, zero, suc, take, List, [], ◌∷◌, map, length, Bool, true, false, cond, nat_lt, Option, Some, None, IfSome, String, Global, string_cmp, ap, sym, subst, ◌∙◌, arith, refl}
use Rattle.std.specs.BTreeMap.{BTreeMap, IsOrdered}
use Rattle.std.specs.List.{filter}
use Rattle.name_table.proofs.Keeps.{text_kept}
use Rattle.name_table.specs.declared.table.NameTable.{NameTable}
use Rattle.reflect_scope.specs.declared.definition.Definition.{Definition}
use Rattle.reflect_scope.specs.declared.seen.Links.{Links}
use Rattle.reflect_scope.specs.FileIndexes.{indexes_of, KeepsIndexes}
use Rattle.reflect_scope.specs.Known.{Known, known_of, kept_first, AllBelow}
use Rattle.reflect_tables.specs.Types.{PoolType}
use Rattle.reflect_tables.specs.ExtensionNumbers.{KeyType, KeepsNumbers, key_cmp, numbers_of}
use Rattle.reflect_pool.specs.Imports.{StandsAlone}
use Rattle.reflect_pool.specs.Linked.{IsLinked, key_of}
use Rattle.reflect_pool.specs.Stored.{AreStored}
use Rattle.reflect_build.proofs.Imported.{links_back, links_cut}
use Rattle.reflect_build.proofs.Numbered.{numbered_back, numbered_cut, places_kept}
use Rattle.reflect_build.proofs.Indexed.{indexed_cut, indexed_back}
use Rattle.reflect_build.proofs.Recorded.{known_cut, headers_cut, recorded_cut}
use Rattle.reflect_build.proofs.Stored.{stored_cut}
use Rattle.reflect_build.proofs.CutPaths.{cut_has}
use Rattle.std.proofs.Math.Path.{fun_ext}
use Rattle.std.proofs.Math.ListN.{length-map}
use Rattle.reflect_tables.specs.Views.{file_of, extension_of, message_of, pool_of}
use Rattle.reflect_tables.specs.declared.stored.StoredMessage.{StoredMessage}
use Rattle.reflect_tables.specs.declared.tables.Tables.{Tables}
use Rattle.reflect_growth.specs.Cut.{cut_to}
use Rattle.reflect_tables.specs.Names.{Sort, messages, enums, extensions, services, AreFound, AreInOrder, AreNamed, names_of, message_name, enum_name, extension_name, service_name, found, place_in}
use Rattle.reflect_growth.proofs.Filters.{map-filter}
use Rattle.reflect_index.proofs.Orders.{first_names, found_first, order_first, found_kept}

-- the names of a pool that is cut back
names_cut : (p : PoolType) (mark : ℕ) (s : Sort) → names_of (cut_to p mark) s ≡ first_names mark (names_of p s)
names_cut p mark messages = map-filter message_name (λ e. nat_lt e.1 mark) p.messages
names_cut p mark enums = map-filter enum_name (λ e. nat_lt e.1 mark) p.enums
names_cut p mark extensions = map-filter extension_name (λ e. nat_lt e.1 mark) p.extensions
names_cut p mark services = map-filter service_name (λ e. nat_lt e.1 mark) p.services

pub named_cut : (p : PoolType) (mark : ℕ) (old new : Known) → ((t : List ℕ) → new t ≡ kept_first mark (old t)) → AreNamed old (names_of p) → AreNamed new (names_of (cut_to p mark))
named_cut p mark old new same named = record {
  found = λ s. subst (AreFound (found s new)) (sym (names_cut p mark s))
      (found_first mark (found s old) (found s new) (names_of p s) (named.in_order s) (λ t. ap (place_in s) (same t) ∙ found_kept s mark (old t)) (named.found s));
  in_order = λ s. subst AreInOrder (sym (names_cut p mark s)) (order_first mark (names_of p s) (named.in_order s));
}

take_long : {X : Type 0} (mark : ℕ) (xs : List X) (n : ℕ) → n < mark → n < length xs → n < length (take mark xs)
take_long zero xs n low lt = absurd (omega (arith, low))
take_long (suc m) [] n low lt = absurd (omega (arith, lt))
take_long (suc m) (x ∷ xs) zero low lt = omega arith
take_long (suc m) (x ∷ xs) (suc n) low lt = let inner = take_long m xs n (omega (arith, low)) (omega (arith, lt)) in omega (arith, inner)

-- the names that are left are of the files that are left
below_cut : (mark top least : ℕ) (old new : Known) → ((n : ℕ) → n < mark → n < top → n < least) → ((t : List ℕ) → new t ≡ kept_first mark (old t)) → AllBelow top old → AllBelow least new
below_cut mark top least old new step same all t = subst (λ o. IfSome o (λ d. d.file < least)) (sym (same t)) (left (old t) (all t)) where
  left : (o : Option Definition) → IfSome o (λ d. d.file < top) → IfSome (kept_first mark o) (λ d. d.file < least)
  left None low = tt
  left (Some d) low = by (nat_lt d.file mark) refl where
    by : (b : Bool) → nat_lt d.file mark ≡ b → IfSome (cond b (Some d) None) (λ e. e.file < least)
    by true is = let first : d.file < mark = grind (arith, is) in step d.file first low
    by false is = tt

-- where all names are of the first files, they are left
all_kept : (top : ℕ) (known : Known) → AllBelow top known → (t : List ℕ) → kept_first top (known t) ≡ known t
all_kept top known all t = whole (known t) (all t) where
  whole : (o : Option Definition) → IfSome o (λ d. d.file < top) → kept_first top o ≡ o
  whole None low = refl
  whole (Some d) low = let is : nat_lt d.file top ≡ true = grind (arith, low) in ap (λ b. cond b (Some d) None) is

-- of the names of files, those of the first ones are left
abbrev pub FirstFiles : ℕ → BTreeMap (String Global) ℕ → BTreeMap (String Global) ℕ → Type 0
FirstFiles mark m n = IsOrdered string_cmp m × (n.entries ≡ filter (λ e. nat_lt e.1 mark) m.entries)

-- of the numbers of extensions, those of the first ones are left
abbrev pub FirstNumbers : ℕ → BTreeMap KeyType ℕ → BTreeMap KeyType ℕ → Type 0
FirstNumbers count m n = IsOrdered key_cmp m × (n.entries ≡ filter (λ e. nat_lt e.1 count) m.entries)

pub linked_cut : (p q : PoolType) (mark : ℕ) (m n : NameTable Definition) (f g : BTreeMap (String Global) ℕ) (u v : BTreeMap KeyType ℕ) (ls ks : List Links) (ms ns : List StoredMessage) → q ≡ cut_to p mark → ((t : List ℕ) → known_of n t ≡ kept_first mark (known_of m t)) → FirstFiles mark f g
    → FirstNumbers (length q.extensions) u v → ks ≡ take mark ls → p.messages ≡ map message_of ms → ns ≡ filter (λ x. nat_lt x.file mark) ms
    → IsLinked p m f u ls ms → StandsAlone (cut_to p mark) → IsLinked q n g v ks ns
linked_cut p q mark m n f g u v ls ks ms ns e names first numbers links are left linked alone =
    let few = subst (λ (r : PoolType). FirstNumbers (length r.extensions) u v) e numbers in
    let indexed = indexed_cut mark (indexes_of f) (indexes_of g) p.files (text_kept (λ i. nat_lt i mark) f g first.0 first.1) linked.files in
    subst (λ r. IsLinked r n g v ks ns) (sym e) (record {
      pooled = alone.pooled;
      named = named_cut p mark (known_of m) (known_of n) names linked.named;
      below = below_cut mark (length p.files) (length (take mark p.files)) (known_of m) (known_of n) (take_long mark p.files) names linked.below;
      files = indexed;
      numbers = numbered_cut mark (numbers_of u) (numbers_of v) p.extensions (linked.named.in_order extensions) (places_kept (length (cut_to p mark).extensions) u v few.0 few.1) linked.numbers;
      imports = alone.imports;
      to_imports = links_cut mark (indexes_of f) (indexes_of g) p.files ls ks linked.files indexed alone.imports links linked.to_imports;
      known =
          fun_ext (λ t. names t
          ∙ ap (λ (k : Known). kept_first mark (k t)) linked.known
          ∙ known_cut mark p.records t);
      headers = headers_cut p mark linked.headers;
      entries = recorded_cut p mark (names_cut p mark) linked.entries;
      stored = stored_cut p mark ms are linked.entries linked.stored ns left;
      placed = cut_has p mark linked.placed;
    })

-- a refusal, behind which the names of the files that are there are left
pub linked_same : (t : Tables) (q : PoolType) (m n : NameTable Definition) (f g h : BTreeMap (String Global) ℕ) (u v w : BTreeMap KeyType ℕ) (ls mid ks : List Links) (ms : List StoredMessage) (mark : ℕ) → mark ≡ length t.files.items → q ≡ pool_of t → ((u : List ℕ) → known_of n u ≡ kept_first mark (known_of m u))
    → KeepsIndexes mark (indexes_of f) (indexes_of g) → FirstFiles mark g h → KeepsNumbers (length t.extensions.items) (numbers_of u) (numbers_of v) → FirstNumbers (length q.extensions) v w
    → take (length ls) mid ≡ ls → ks ≡ take mark mid → ms ≡ t.messages.items → IsLinked (pool_of t) m f u ls t.messages.items → IsLinked q n h w ks ms
linked_same t q m n f g h u v w ls mid ks ms mark start e left keeps first kept numbers kept_links links stay linked =
    let long : length (pool_of t).extensions ≡ length t.extensions.items = length-map t.extensions.items extension_of in
    let few = subst (λ k. FirstNumbers k v w) (ap (λ (r : PoolType). length r.extensions) e) numbers in
    let count : length (pool_of t).files ≡ length t.files.items = length-map t.files.items file_of in
    let names : known_of n ≡ known_of m = fun_ext (λ u. left u ∙ ap (λ k. kept_first k (known_of m u)) (start ∙ sym count) ∙ all_kept (length (pool_of t).files) (known_of m) linked.below u) in
    let indexed = indexed_back mark (indexes_of f) (indexes_of g) (indexes_of h) (pool_of t).files (start ∙ sym count) keeps (text_kept (λ i. nat_lt i mark) g h first.0 first.1) linked.files in
    subst (λ r. IsLinked r n h w ks ms) (sym e) (record {
      pooled = linked.pooled;
      named = subst (λ k. AreNamed k (names_of (pool_of t))) (sym names) linked.named;
      below = subst (AllBelow (length (pool_of t).files)) (sym names) linked.below;
      files = indexed;
      numbers = numbered_back (length (pool_of t).extensions) (numbers_of u) (numbers_of v) (numbers_of w) (map key_of (pool_of t).extensions) (sym (length-map (pool_of t).extensions key_of))
          (subst (λ k. KeepsNumbers k (numbers_of u) (numbers_of v)) (sym long) kept) (places_kept (length (pool_of t).extensions) v w few.0 few.1) linked.numbers;
      imports = linked.imports;
      to_imports = links_back mark (indexes_of f) (indexes_of h) (pool_of t).files ls mid ks (start ∙ sym count) linked.files indexed linked.imports kept_links links linked.to_imports;
      known = names ∙ linked.known;
      headers = linked.headers;
      entries = linked.entries;
      stored = subst (AreStored (pool_of t).records) (sym stay) linked.stored;
      placed = linked.placed;
    })
