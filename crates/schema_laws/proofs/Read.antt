-- Linking reads of records whose options were settled what it did before.
use Rattle.std.specs.declared.alloc.Global.{Global}
use Rattle.std.proofs.Common.{◌≡◌, ◌≤◌, ◌-◌, ◌++◌, ℕ, ℤ, List, [], ◌∷◌, map, length, Some, Vec, slice_get, ap, refl, sym, subst, ◌∙◌}
use Rattle.std.proofs.lemmas.List.{map-append}
use Rattle.std.specs.List.{AllByRecursion}
use Rattle.descriptor_records.specs.Content.{FileContent, OptionsContent, file_view, options_view}
use Rattle.descriptor_records.specs.declared.file.FileDescriptorProto.{FileDescriptorProto}
use Rattle.descriptor_records.specs.declared.options.Options.{Options}
use Rattle.texts_view.specs.ReadOptions.{read_file, read_options}
use Rattle.message_view.specs.Sound.{IsSound}
use Rattle.option_parts.specs.OptionTypes.{CanRead}
use Rattle.option_setter.specs.declared.option_setter.NameScope.{NameScope}
use Rattle.plain_records.specs.PlainRecords.{IsPlainFile}
use Rattle.reflect_growth.specs.Put.{file_put, with_at}
use Rattle.reflect_growth.specs.declared.settle.Edit.{Edit}
use Rattle.reflect_growth.specs.declared.settle.Edit.TheVariants as edits
use Rattle.reflect_options.specs.Entities.{Entity, file_entities}
use Rattle.reflect_options.specs.Settled.{Settles}
use Rattle.reflect_options.specs.Settling.{SettlesPool}
use Rattle.reflect_pool.proofs.Grown.{all_through}
use Rattle.reflect_tables.specs.Types.{PoolType}
use Rattle.settled_records.proofs.AllOptions.{Said, file_keeps}
use Rattle.settled_records.proofs.Edits.{EditsEntity, files_edits}
use Rattle.settled_records.proofs.InEntities.{entities_of}
use Rattle.settled_records.proofs.OfEntities.{Meets}
use Rattle.settled_records.proofs.PlainOptions.{file_of, said}
use Rattle.settled_records.proofs.Standing.{Stands, file_stands}
use Rattle.settled_records.proofs.Themselves.{stays_at}
use Rattle.stored_options.proofs.Linking.{copied_as_before}
use Rattle.stored_options.specs.CopiedOptions.{AreCopied}
use Rattle.text_view.specs.SourceNames.{HaveOwnNames}
use Rattle.schema_laws.proofs.ReadPut.{edited_read, file_read, read_stays}
use Rattle.schema_laws.specs.HeldOptions.{ReadsAlike}

twice : (fs : List FileDescriptorProto) → map read_file (map file_view fs) ≡ map (λ f. read_file (file_view f)) fs
twice [] = refl
twice (f ∷ fs) = ap (λ ys. read_file (file_view f) ∷ ys) (twice fs)

module _ (linked new : PoolType) (first : ℕ) (settles : SettlesPool linked first new) (sound : IsSound linked) (names : HaveOwnNames linked)
    (given : (k : ℕ) (f : FileDescriptorProto) → slice_get linked.records k ≡ Some f → first ≤ k → IsPlainFile AreCopied 99 (file_view f)) where
  abbrev reads : List FileContent
  reads = map read_file (map file_view linked.records)

  abbrev Leaves : Edit → Type 0
  Leaves e = edited_read reads e ≡ reads

  -- options of which linking reads what it reads of those at the path of the file
  abbrev Stay : ℕ → Said
  Stay file scope path o = with_at file (file_put path (read_options o)) reads ≡ reads

  same_read : (file : ℕ) (f : FileDescriptorProto) → slice_get linked.records file ≡ Some f → (path : List ℤ) (o : OptionsContent) → file_put path o (file_view f) ≡ file_view f
      → with_at file (file_put path (read_options o)) reads ≡ reads
  same_read file f there path o same =
      let change = file_put path (read_options o) in
      let here : change (read_file (file_view f)) ≡ read_file (file_view f) = sym (file_read path o (file_view f)) ∙ ap read_file same in
      ap (with_at file change) (twice linked.records) ∙ stays_at (λ f. read_file (file_view f)) change file linked.records f there here ∙ sym (twice linked.records)

  -- what is read of what they settle to
  says_same : (c : Entity) → Meets (λ file. said AreCopied) c → (s : NameScope) (o settled : Options) (paths : List (List ℤ)) → c.options ≡ Some o → s.pool.now ≡ linked
      → Settles c.scope s o (options_view settled) paths → read_options (options_view settled) ≡ read_options (options_view o)
  says_same c meets s o settled paths is pool settle =
      let r = copied_as_before c.scope s o settled paths (subst IsSound (sym pool) sound) (subst HaveOwnNames (sym pool) names) (subst (λ p. CanRead p c.scope) (sym pool) (settles.readable c.scope)) (meets o is) settle in
      λ i. record { encoded = []; packed = r.0 i; allow_alias = r.1 i; map_entry = r.2 i; uninterpreted_option = [] }

  moved : (file place : ℕ) (path : Vec ℤ Global) → Leaves (edits.Location file place path)
  moved file place path = refl

  one_edit : (c : Entity) → Meets Stay c × Meets (λ file. said AreCopied) c → EditsEntity linked Leaves moved c
  one_edit c meets s o settled paths at is pool settle placed =
      ap (λ p. with_at c.file (file_put p (read_options (options_view settled))) reads) placed
      ∙ ap (λ v. with_at c.file (file_put c.path v) reads) (says_same c meets.1 s o settled paths is pool settle)
      ∙ meets.0 o is

  file_edits : (k : ℕ) (f : FileDescriptorProto) → slice_get linked.records k ≡ Some f → first ≤ k → AllByRecursion (EditsEntity linked Leaves moved) (file_entities k f)
  file_edits k f there far =
      let stand = file_keeps (Stands (file_view f)) (Stay k) (λ scope path o same. same_read k f there path o same) (file_view f) (file_stands (file_view f)) in
      let stay = entities_of Stay k f stand in
      let says = entities_of (λ file. said AreCopied) k f (file_of AreCopied 99 (file_view f) (given k f there far)) in
      all_through (λ c. Meets Stay c × Meets (λ file. said AreCopied) c) (EditsEntity linked Leaves moved) (file_entities k f) one_edit (all_pairs (Meets Stay) (Meets (λ file. said AreCopied)) (file_entities k f) stay says)
    where
      all_pairs : {A : Type 0} (P Q : A → Type 0) (xs : List A) → AllByRecursion P xs → AllByRecursion Q xs → AllByRecursion (λ x. P x × Q x) xs
      all_pairs P Q [] p q = tt
      all_pairs P Q (x ∷ xs) p q = ((p.0, q.0), all_pairs P Q xs p.1 q.1)

  pub settled_reads_alike : ReadsAlike linked new
  settled_reads_alike =
      ap (map read_file) settles.put
      ∙ read_stays settles.edits (map file_view linked.records) (files_edits linked Leaves moved first (length linked.files - first) settles.edits file_edits settles.settled)

-- what a batch adds stands behind records of which linking reads the same
pub read_behind : (old was linked before : PoolType) (more : List FileDescriptorProto) → ReadsAlike was old → linked.records ≡ old.records ++ more → before.records ≡ was.records ++ more
    → ReadsAlike before linked
read_behind old was linked before more alike beside behind =
    ap (λ fs. map read_file (map file_view fs)) beside ∙ parts old.records ∙ ap (λ fs. fs ++ map read_file (map file_view more)) alike ∙ sym (parts was.records)
    ∙ sym (ap (λ fs. map read_file (map file_view fs)) behind)
  where
    parts : (fs : List FileDescriptorProto) → map read_file (map file_view (fs ++ more)) ≡ map read_file (map file_view fs) ++ map read_file (map file_view more)
    parts fs = ap (map read_file) (map-append file_view fs more) ∙ map-append read_file (map file_view fs) (map file_view more)
