-- Each file of a pool that sources made was linked and settled with one of the batches.
use Rattle.std.proofs.Common.{◌≡◌, ◌⊎◌, ◌≤◌, ◌<◌, ◌++◌, ◌∙◌, inl, inr, ℕ, List, [], ◌∷◌, map, length, Some, slice_get, ap, refl, sym, subst, arith}
use Rattle.std.proofs.lemmas.Bool.{cases_lt}
use Rattle.std.proofs.lemmas.List.{length-map}
use Rattle.descriptor_records.specs.Content.{FileContent, file_view}
use Rattle.descriptor_records.specs.declared.file.FileDescriptorProto.{FileDescriptorProto}
use Rattle.linked_names.specs.SourcePools.{IsSourcePool}
use Rattle.message_view.specs.Sound.{IsSound}
use Rattle.plain_records.specs.PlainRecords.{ArePlainFiles, IsPlainFile}
use Rattle.plain_records.specs.SourceOptions.{AreGiven}
use Rattle.reflect_build.specs.Accepted.{FaultlessFiles}
use Rattle.reflect_build.specs.Refusals.{IsOf, Linking, new_files}
use Rattle.reflect_build.proofs.Parted.{one_new}
use Rattle.reflect_growth.specs.Settled.{bare_of}
use Rattle.reflect_index.proofs.Among.{got_map}
use Rattle.reflect_options.specs.Settling.{SettlesPool}
use Rattle.reflect_pool.specs.Linked.{empty_pool}
use Rattle.reflect_tables.specs.Types.{PoolType}
use Rattle.schema_laws.proofs.Held.{new_given}
use Rattle.schema_laws.proofs.Linked.{linked_names, linked_sound}
use Rattle.settled_view.specs.BuiltBut.{ChangesOptions}
use Rattle.settled_view.proofs.Built.{itself}
use Rattle.settled_view.proofs.Many.{as_many}
use Rattle.settled_view.proofs.Transfer.{pool_before}
use Rattle.text_view.specs.SourceNames.{HaveOwnNames}
use Rattle.types_view.specs.Typed.{IsTyped}
use Rattle.types_view.proofs.Settled.{IsTypedMore, empty_typed, typed_more}
use Rattle.schema_core.specs.Refusals.{IsPool}
use Rattle.schema_laws.proofs.Front.{front_stays}
use Rattle.schema_laws.proofs.Grown.{empty_is_pool}
use Rattle.schema_laws.proofs.Lists.{back_get, front_map}
use Rattle.schema_laws.proofs.Naming.{empty_sources}

-- the batches were linked into a pool
pub record AreLinked (batches : List (List FileContent)) (p : PoolType) : Type 0 where
  pub typed : IsTyped batches p
  pub is : IsPool p
  pub sound : IsSound p
  pub names : HaveOwnNames p

-- the pool has a file of these contents at the index, with options as sources give them
pub record HasFile (p : PoolType) (index : ℕ) (contents : FileContent) : Type 0 where
  pub file : FileDescriptorProto
  pub there : slice_get p.records index ≡ Some file
  pub content : file_view file ≡ contents
  pub given : IsPlainFile AreGiven 99 (file_view file)

-- a file of the last of these batches: it was linked with it to the one content, and settled to the other
pub record IsOfLast (batches : List (List FileContent)) (as_linked as_settled : FileContent) : Type 0 where
  pub pool : PoolType
  pub new : PoolType
  pub first : ℕ
  pub index : ℕ
  pub linked : AreLinked batches pool
  pub settles : SettlesPool pool first new
  pub far : first ≤ index
  pub stood : HasFile pool index as_linked
  pub comes : slice_get (map file_view new.records) index ≡ Some as_settled

-- a file of one of them, which was the last when it came
pub record IsOneOf (batches : List (List FileContent)) (as_linked as_settled : FileContent) : Type 0 where
  pub own : List (List FileContent)
  pub more : List (List FileContent)
  pub behind : more ++ own ≡ batches
  pub last : IsOfLast own as_linked as_settled

-- sources made the pool by these batches, and so it is of the files at each place
pub record CameAbout (batches : List (List FileContent)) (p : PoolType) : Type 0 where
  pub typed : IsTyped batches p
  pub is : IsPool p
  pub named : IsSourcePool p
  pub files : (k : ℕ) (x y : FileContent) → slice_get (map file_view typed.but.linked.records) k ≡ Some x
      → slice_get (map file_view p.records) k ≡ Some y → IsOneOf batches x y

-- files of sources that a pool had not yet were linked into it, and settled
pub record AddsBatch (old new : PoolType) (batch : List FileContent) : Type 0 where
  pub linked : PoolType
  pub typed : List FileDescriptorProto
  pub faultless : FaultlessFiles old typed linked
  pub added : map file_view (new_files faultless.0.indexes typed) ≡ batch
  pub given : ArePlainFiles AreGiven (map file_view typed)
  pub settles : SettlesPool linked (length old.files) new
  pub changes : ChangesOptions linked new
  pub is : IsPool new
  pub sound : IsSound new
  pub named : IsSourcePool new

module _ (earlier : List (List FileContent)) (batch : List FileContent) (old new : PoolType) (before : CameAbout earlier old) (add : AddsBatch old new batch) where
  abbrev linked : PoolType
  linked = add.linked

  more : IsTypedMore earlier old before.typed linked new add.typed
  more = typed_more earlier old linked new add.typed before.typed add.is add.faultless add.changes

  batch_is : (w : Linking) → IsOf old w → map file_view (new_files w.indexes add.typed) ≡ batch
  batch_is w of = ap (map file_view) (one_new old w add.faultless.0 add.typed of add.faultless.1) ∙ add.added

  many : length old.files ≡ length old.records
  many = as_many old add.faultless.0 add.faultless.1

  -- ---- the pool as linking made it
  sound : IsSound linked
  sound = linked_sound linked new add.changes.settled add.sound

  is_linked : AreLinked (batch ∷ earlier) linked
  is_linked =
      let pool : IsPool linked = pool_before linked new add.changes add.is in
      let m : IsTypedMore earlier old before.typed linked linked add.typed =
      typed_more earlier old linked linked add.typed before.typed pool add.faultless (itself linked) in
      record {
        typed = subst (λ (b : List FileContent). IsTyped (b ∷ earlier) linked) (batch_is m.linking m.of) m.typed;
        is = pool;
        sound = sound;
        names = linked_names linked new add.changes.settled add.named.names.distinct;
      }

  -- ---- its files
  abbrev ms : List FileDescriptorProto
  ms = more.more

  abbrev was : List FileDescriptorProto
  was = before.typed.but.linked.records

  as_many_were : length was ≡ length old.records
  as_many_were =
      sym (length-map was bare_of) ∙ ap (λ (fs : List FileContent). length fs) (sym before.typed.but.settles.bare) ∙ length-map old.records bare_of

  abbrev Is : ℕ → FileContent → FileContent → Type 0
  Is k x y = (slice_get (map file_view more.typed.but.linked.records) k ≡ Some x) × (slice_get (map file_view new.records) k ≡ Some y)

  -- one of the older
  older : (k : ℕ) (x y : FileContent) → Is k x y → k < length old.records → IsOneOf (batch ∷ earlier) x y
  older k x y is less =
      let early : k < length was = omega (arith, less, as_many_were) in
      let first : k < length old.files = omega (arith, less, many) in
      let stood : slice_get (map file_view more.typed.but.linked.records) k ≡ slice_get (map file_view was) k =
      ap (λ (rs : List FileDescriptorProto). slice_get (map file_view rs) k) more.behind ∙ front_map file_view was ms k early in
      let stays : slice_get (map file_view new.records) k ≡ slice_get (map file_view old.records) k =
      front_stays linked new (length old.files) k add.settles first
      ∙ ap (λ (rs : List FileDescriptorProto). slice_get (map file_view rs) k) more.beside ∙ front_map file_view old.records ms k less in
      let one : IsOneOf earlier x y = before.files k x y (sym stood ∙ is.0) (sym stays ∙ is.1) in
      record { own = one.own; more = batch ∷ one.more; behind = ap (λ (bs : List (List FileContent)). batch ∷ bs) one.behind; last = one.last }

  -- one of the batch
  newer : (k : ℕ) (x y : FileContent) → Is k x y → length old.records ≤ k → IsOneOf (batch ∷ earlier) x y
  newer k x y is far =
      let f = got_map file_view more.typed.but.linked.records k x is.0 in
      let there : slice_get linked.records k ≡ Some f.0 =
      ap (λ (rs : List FileDescriptorProto). slice_get rs k) more.beside ∙ back_get old.records was ms k as_many_were far
      ∙ sym (ap (λ (rs : List FileDescriptorProto). slice_get rs k) more.behind) ∙ f.1 in
      let behind : length old.files ≤ k = omega (arith, far, many) in
      let given = new_given old linked new add.typed add.faultless add.settles add.changes.settled sound add.given k f.0 there behind in
      let stood : HasFile linked k x = record { file = f.0; there = there; content = f.2; given = given } in
      record {
        own = batch ∷ earlier;
        more = [];
        behind = refl;
        last = record {
          pool = linked;
          new = new;
          first = length old.files;
          index = k;
          linked = is_linked;
          settles = add.settles;
          far = behind;
          stood = stood;
          comes = is.1;
        };
      }

  each : (k : ℕ) (x y : FileContent) → Is k x y → IsOneOf (batch ∷ earlier) x y
  each k x y is = by (cases_lt k (length old.records))
    where
      by : (k < length old.records) ⊎ (length old.records ≤ k) → IsOneOf (batch ∷ earlier) x y
      by (inl less) = older k x y is less
      by (inr far) = newer k x y is far

  pub came_more : CameAbout (batch ∷ earlier) new
  came_more =
      let same : map file_view (new_files more.linking.indexes add.typed) ≡ batch = batch_is more.linking more.of in
      subst (λ (b : List FileContent). CameAbout (b ∷ earlier) new) same (record {
        typed = more.typed;
        is = add.is;
        named = add.named;
        files = λ k x y there here. subst (λ (b : List FileContent). IsOneOf (b ∷ earlier) x y) (sym same) (each k x y (there, here));
      })

-- ---- the pool that has none
no_file : (k : ℕ) (x : FileContent) → slice_get (map file_view empty_pool.records) k ≡ Some x → ⊥
no_file k x there = cc there

pub none_came : CameAbout [] empty_pool
none_came = record {
  typed = empty_typed;
  is = empty_is_pool;
  named = empty_sources;
  files = λ k x y there here. absurd (no_file k y here);
}
