-- What a refusal of a later pass lists.
use Rattle.std.proofs.Common.{◌≡◌, ◌⊎◌, ◌++◌, ℕ, String, length, List, [], ◌∷◌, inl, inr, Result, Ok, Err, IfOk, IfErr, OnOk, IsErrAnd, MatchResult, is_ok, map, ap, sym, subst, ◌∙◌, ⊎_elim, refl}
use Rattle.std.proofs.Math.ListN.{length-map}
use Rattle.std.specs.declared.alloc.Global.{Global}
use Rattle.std.specs.BTreeMap.{BTreeMap}
use Rattle.name_table.specs.declared.table.NameTable.{NameTable}
use Rattle.reflect_scope.specs.declared.definition.Definition.{Definition}
use Rattle.reflect_declarations.specs.declared.offsets.Offsets.{Offsets}
use Rattle.reflect_tables.specs.Views.{file_of, pool_of}
use Rattle.reflect_tables.specs.declared.tables.Tables.{Tables}
use Rattle.reflect_tables.specs.ExtensionNumbers.{KeyType, numbers_of}
use Rattle.reflect_passes.specs.Extensions.{is_known}
use Rattle.reflect_pool.specs.Linked.{IsLinked}
use Rattle.reflect_build.specs.Refusals.{CountsOf, Linking, linking, with_declared, AreLinked, ReferencesMean, AreTypes, FaultyBatch, Faulty, IsOf, new_files, FaultyFiles}
use Rattle.reflect_pool.proofs.Numbered.{has_number}
use Rattle.reflect_build.proofs.Stands.{counts_are}
use Rattle.std.proofs.lemmas.Result.{err_from_is_err_and, IfErr-weaker}
use Rattle.descriptor_records.specs.declared.file.FileDescriptorProto.{FileDescriptorProto}
use Rattle.reflect_scope.specs.declared.seen.Links.{Links}
use Rattle.reflect_declarations.specs.Batches.{batch_declarations}
use Rattle.reflect_scope.specs.FileIndexes.{link_view}
use Rattle.reflect_names.specs.ImportedFiles.{links_to}
use Rattle.reflect_names.specs.ReferencePass.{BatchReferences}
use Rattle.reflect_names.specs.ReferenceSteps.{target_of}
use Rattle.reflect_index.specs.BatchEntries.{IsBatchOf}
use Rattle.reflect_index.specs.DraftNames.{stored_message_name, stored_enum_name, stored_extension_name}
use Rattle.reflect_tables.specs.Names.{messages, enums, extensions}
use Rattle.reflect_known.specs.DeclaredNames.{with_names}
use Rattle.reflect_tables.specs.Types.{PoolType}
use Rattle.reflect_index.specs.OfDeclarations.{AllDeclared, messages_in, enums_in, stored_ranges, stored_values, declared_values}
use Rattle.reflect_index.specs.declared.batch.Batch.{Batch}
use Rattle.reflect_faults.specs.Faults.{Fault, another, batch_places, list_of, place_at}
use Rattle.reflect_faults.specs.declared.faults.Faults.{Faults}
use Rattle.reflect_names.specs.declared.resolve_visitor.Reference.{Reference}
use Rattle.reflect_passes.specs.Errors.{ListsFaults, faults_of}
use Rattle.reflect_passes.specs.NameFaults.{name_faults}
use Rattle.reflect_passes.specs.NumberFaults.{NumberFaults, doubled}
use Rattle.reflect_passes.specs.declared.error.DescriptorError.{DescriptorError}
use Rattle.reflect_passes.specs.declared.linked_types.LinkedTypes.{LinkedTypes}

-- what holds of a result holds where its error was mapped
pub mapped : {A E D : Type 0} (P : A → Type 0) (Q : E → D → Type 0) (r : Result A E) (s : Result A D) → MatchResult r (λ x. s ≡ Ok x) (λ e. IsErrAnd s (Q e)) → IfOk r P → (y : A) → s ≡ Ok y → P y
mapped P Q (Ok x) s same h y is = let e : Ok x ≡ Ok y = sym same ∙ is in let f : x ≡ y = cc in subst P f h
mapped P Q (Err e) s other h y is = absurd (subst (λ t. IsErrAnd t (Q e)) is other)

-- what holds where a result was Ok before its error was mapped
pub before_mapped : {A E D : Type 0} (P : Type 0) (r : Result A E) (s : Result A D) (x : A) → is_ok s ≡ is_ok r → s ≡ Ok x → OnOk r P → P
before_mapped P (Ok a) s x e is h = h
before_mapped P (Err a) s x e is h = absurd (let no = sym (ap is_ok is) ∙ e in cc)

-- the error that another was mapped to
pub mapped_error : {A V : Type 0} (Gives : V → DescriptorError → Type 0) (r : Result A V) (s : Result A DescriptorError) → MatchResult r (λ x. s ≡ Ok x) (λ e. IsErrAnd s (Gives e))
    → ((e : V) (y : DescriptorError) → Gives e y → faults_of y ≡ another ∷ []) → (y : DescriptorError) → s ≡ Err y → faults_of y ≡ another ∷ []
mapped_error Gives (Ok x) s same all y is = absurd (let no = sym same ∙ is in cc)
mapped_error Gives (Err e) s other all y is =
    let p = err_from_is_err_and s other in
    let errors : Err p.0 ≡ Err y = sym p.1 ∙ is in
    let same : p.0 ≡ y = cc in
    subst (λ z. faults_of z ≡ another ∷ []) same (all e p.0 p.2)

-- another list of faults that an error may give
refuses_as : {P Q : List Fault → Type 0} (e : DescriptorError) → ((xs : List Fault) → P xs → Q xs) → ListsFaults P e → ListsFaults Q e
refuses_as e f h = ⊎_elim (λ a. inl a) (λ b. inr (f (faults_of e) b)) h

refused_with : {T : Type 0} (Q : List Fault → Type 0) (r : Result T DescriptorError) (e : DescriptorError) → r ≡ Err e → ListsFaults Q e → IfErr r (λ x. ListsFaults Q x)
refused_with Q r e is h = subst (λ x. IfErr x (λ y. ListsFaults Q y)) (sym is) h

-- the types that a batch adds
abbrev pub types_with : Linking → Batch → LinkedTypes
types_with w b = record { old = record { ref_ptr = (0, 0); now = w.tables }; new = record { ref_ptr = (0, 0); now = b } }

pub types_of : {V : Type 0} (w : Linking) (fs files : List FileDescriptorProto) (rs given : List Reference) (Gives : V → DescriptorError → Type 0) (r : Result Batch V) (s : Result Batch DescriptorError) → files ≡ fs → given ≡ rs
    → MatchResult r (λ x. s ≡ Ok x) (λ e. IsErrAnd s (Gives e))
    → IfOk r (λ b. map stored_message_name b.messages.items ≡ with_names messages [] (batch_declarations w.before w.first files))
    → IfOk r (λ b. AllDeclared (messages_in (batch_declarations w.before w.first files)) (map stored_ranges b.messages.items))
    → IfOk r (λ b. map stored_enum_name b.enums.items ≡ with_names enums [] (batch_declarations w.before w.first files))
    → IfOk r (λ b. map stored_values b.enums.items ≡ map declared_values (enums_in (batch_declarations w.before w.first files)))
    → IfOk r (λ b. map stored_extension_name b.extensions.items ≡ with_names extensions [] (batch_declarations w.before w.first files))
    → IfOk r (IsBatchOf given w.before w.first (batch_declarations w.before w.first files))
    → (b : Batch) → s ≡ Ok b → AreTypes w fs rs (types_with w b)
types_of w fs files rs given Gives r s same used cases ms ranges es vs xs entries b is =
    subst (λ l. AreTypes w l rs (types_with w b)) same (record {
      old = refl;
      messages = mapped _ Gives r s cases ms b is;
      ranges = mapped _ Gives r s cases ranges b is;
      enums = mapped _ Gives r s cases es b is;
      values = mapped _ Gives r s cases vs b is;
      extensions = mapped _ Gives r s cases xs b is;
      entries = subst (λ l. IsBatchOf l w.before w.first (batch_declarations w.before w.first files) b) used (mapped _ Gives r s cases entries b is);
    })

pub means_of : (w : Linking) (fs : List FileDescriptorProto) (rs : List Reference) (linked found : List FileDescriptorProto) (links seen : List Links) → linked ≡ fs → found ≡ fs → seen ≡ links
    → map link_view links ≡ map link_view w.links ++ map (links_to w.indexes) linked
    → BatchReferences w.known seen (batch_places found w.first) w.before w.first found (map target_of rs) [] → ReferencesMean w fs rs
means_of w fs rs linked found links seen a b e added right = record {
  links = links;
  linked = subst (λ l. AreLinked w l links) a added;
  right = subst (λ l. BatchReferences w.known links (batch_places l w.first) w.before w.first l (map target_of rs) []) b
      (subst (λ l. BatchReferences w.known l (batch_places found w.first) w.before w.first found (map target_of rs) []) e right);
}

module _ {T : Type 0} (w : Linking) (fs : List FileDescriptorProto) (rs : List Reference) (t : LinkedTypes) (means : ReferencesMean w fs rs) (types : AreTypes w fs rs t)
    (r : Result T DescriptorError) (e : DescriptorError) (is : r ≡ Err e) where
  pub refused_numbers : ListsFaults (NumberFaults t w.before w.first fs rs) e → IfErr r (λ x. ListsFaults (FaultyBatch w fs) x)
  refused_numbers h = refused_with (FaultyBatch w fs) r e is (refuses_as {P = NumberFaults t w.before w.first fs rs} {Q = FaultyBatch w fs} e (λ xs n. inr (inl (rs, t, means, types, n))) h)

  pub refused_extensions : (f : Faults) → NumberFaults t w.before w.first fs rs [] → list_of f ≡ [] → place_at f ≡ batch_places fs w.first
      → ListsFaults (λ xs. xs ≡ list_of f ++ doubled w.numbers t (place_at f)) e → IfErr r (λ x. ListsFaults (FaultyBatch w fs) x)
  refused_extensions f none empty at h =
      refused_with (FaultyBatch w fs) r e is
      (refuses_as {P = λ xs. xs ≡ list_of f ++ doubled w.numbers t (place_at f)} {Q = FaultyBatch w fs} e
      (λ xs n. inr (inr (rs, t, means, types, none, n ∙ ap (λ l. l ++ doubled w.numbers t (place_at f)) empty ∙ ap (doubled w.numbers t) at))) h)

module _ {T : Type 0} (w : Linking) (fs : List FileDescriptorProto) (r : Result T DescriptorError) where
  pub refused_names : (files : List FileDescriptorProto) (e : DescriptorError) → r ≡ Err e → files ≡ fs → ListsFaults (λ xs. xs ≡ name_faults w.indexes w.known w.before w.first files) e → IfErr r (λ x. ListsFaults (Faulty w fs) x)
  refused_names files e is same h =
      let names = subst (λ l. ListsFaults (λ xs. xs ≡ name_faults w.indexes w.known w.before w.first l) e) same h in
      refused_with (Faulty w fs) r e is (refuses_as {P = λ xs. xs ≡ name_faults w.indexes w.known w.before w.first fs} {Q = Faulty w fs} e (λ xs n. inl n) names)

  pub refused_behind : (v : Linking) → name_faults w.indexes w.known w.before w.first fs ≡ [] → v ≡ with_declared w fs → IfErr r (λ x. ListsFaults (FaultyBatch v fs) x) → IfErr r (λ x. ListsFaults (Faulty w fs) x)
  refused_behind v none is h =
      let later = subst (λ u. IfErr r (λ x. ListsFaults (FaultyBatch u fs) x)) is h in
      IfErr-weaker r (λ x. ListsFaults (FaultyBatch (with_declared w fs) fs) x) (λ x. ListsFaults (Faulty w fs) x)
      (λ e n. refuses_as {P = FaultyBatch (with_declared w fs) fs} {Q = Faulty w fs} e (λ xs b. inr (none, b)) n) later

-- a walk that ended early is refused with its error alone
module _ {A V : Type 0} (w : Linking) (fs : List FileDescriptorProto) (Gives : V → DescriptorError → Type 0) (r : Result A V) (s : Result A DescriptorError)
    (cases : MatchResult r (λ x. s ≡ Ok x) (λ e. IsErrAnd s (Gives e))) (alone : (e : V) (y : DescriptorError) → Gives e y → faults_of y ≡ another ∷ []) where
  pub refused_walk : {T : Type 0} (y : DescriptorError) → s ≡ Err y → (out : Result T DescriptorError) → IsErrAnd out (λ z. z ≡ y) → IfErr out (λ e. ListsFaults (FaultyBatch w fs) e)
  refused_walk y is out err =
      let p = err_from_is_err_and out err in
      refused_with (FaultyBatch w fs) out p.0 p.1 (inl (ap faults_of p.2 ∙ mapped_error Gives r s cases alone y is))

  pub refused_last : IfErr s (λ e. ListsFaults (FaultyBatch w fs) e)
  refused_last = by s refl where
    by : (t : Result A DescriptorError) → s ≡ t → IfErr t (λ e. ListsFaults (FaultyBatch w fs) e)
    by (Ok x) is = tt
    by (Err y) is = inl (mapped_error Gives r s cases alone y is)

-- what the parts of a pool are linked with
pub is_of : (tables : Tables) (names : NameTable Definition) (file_names : BTreeMap (String Global) ℕ) (links : List Links) (numbers : BTreeMap KeyType ℕ) (before : Offsets) (first : ℕ) (p : PoolType)
    → IsLinked (pool_of tables) names file_names numbers links tables.messages.items → CountsOf (pool_of tables) before → first ≡ length tables.files.items → pool_of tables ≡ p
    → IsOf p (linking file_names names links tables numbers before first)
is_of tables names file_names links numbers before first p linked counts start same =
    subst (λ q. IsOf q (linking file_names names links tables numbers before first)) same (record {
      tables = refl;
      named = linked.named;
      files = linked.files;
      links = linked.to_imports;
      numbers = λ k. has_number (numbers_of numbers) (pool_of tables).extensions linked.numbers k (is_known numbers k) refl;
      before = counts;
      first = start ∙ sym (length-map tables.files.items file_of);
      known = linked.known;
      counts = counts_are (pool_of tables) before counts linked.entries;
      stored = linked.stored;
    })

-- a pool's faulty files are faulty with what it knows
pub refused_files : {T : Type 0} (p : PoolType) (w : Linking) (fs news : List FileDescriptorProto) (r : Result T DescriptorError) → IsOf p w → news ≡ new_files w.indexes fs
    → IfErr r (λ x. ListsFaults (Faulty w news) x) → IfErr r (λ x. ListsFaults (FaultyFiles p fs) x)
refused_files p w fs news r of same h =
    IfErr-weaker r (λ x. ListsFaults (Faulty w news) x) (λ x. ListsFaults (FaultyFiles p fs) x)
    (λ e n. refuses_as {P = Faulty w news} {Q = FaultyFiles p fs} e (λ xs b. (w, of, subst (λ l. Faulty w l xs) same b)) n) h

-- what is refused as such, or for want of memory, is refused
pub still_refused : (P : List Fault → Type 0) (e f : DescriptorError)
    → (f ≡ e) ⊎ (faults_of f ≡ another ∷ []) → ListsFaults P e → ListsFaults P f
still_refused P e f (inl same) h = subst (ListsFaults P) (sym same) h
still_refused P e f (inr few) h = inl few
