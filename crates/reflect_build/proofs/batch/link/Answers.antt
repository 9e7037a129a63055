use Rattle.std.proofs.Common.{◌≡◌, List, [], Result, Ok, Err, OnOk, length, refl, sym, subst, rules}
use Rattle.std.proofs.lemmas.Result.{err_from_is_err_and, on_ok_weaker}
use Rattle.reflect_passes.specs.Errors.{ListsFaults}
use Rattle.reflect_passes.specs.declared.error.DescriptorError.{DescriptorError}
use Rattle.reflect_build.specs.Refusals.{Linking, linking, with_declared}
use Rattle.reflect_build.specs.Accepted.{FaultlessBatch}
use Rattle.reflect_pool.specs.AtPaths.{HaveRecords}
use Rattle.reflect_pool.specs.Stored.{AreStored}
use Rattle.reflect_build.proofs.AtPaths.{added_has}
use Rattle.reflect_build.proofs.Refused.{is_of, refused_names, refused_behind}
use Rattle.descriptor_records.specs.declared.file.FileDescriptorProto.{FileDescriptorProto}
use Rattle.reflect_scope.specs.Known.{Known, known_of}
use Rattle.reflect_known.specs.KnownNames.{known_behind}
use Rattle.reflect_names.specs.NameSteps.{KeepsFrom}
use Rattle.reflect_passes.specs.NameFaults.{name_faults}
use Rattle.reflect_declarations.specs.Batches.{batch_declarations}
use Rattle.reflect_faults.specs.Faults.{batch_places}
use Rattle.reflect_scope.specs.FileIndexes.{Indexes, indexes_of}
use Rattle.reflect_names.specs.FileNames.{with_files, files_faults}
use Rattle.reflect_tables.specs.Views.{pool_of}
use Rattle.reflect_index.proofs.Known.{none_left, none_right}
use Rattle.reflect_build.proofs.Stands.{all_go_on, linked_more}
use Rattle.reflect_build.proofs.batch.link.Goals as goal

by : {A E P Q R S T U V W X Y Z : Type 0} (r : Result A E) → OnOk r P → OnOk r Q → OnOk r R
    → OnOk r S → OnOk r T → OnOk r U → OnOk r V → OnOk r W → OnOk r X → OnOk r Y
    → (P → Q → R → S → T → U → V → W → X → Y → Z) → OnOk r Z
by (Ok a) p q r s t u v w x y f = f p q r s t u v w x y
by (Err e) p q r s t u v w x y f = p

both : {A E : Type 0} (P Q : Type 0) (r : Result A E) → OnOk r P → OnOk r Q → OnOk r (P × Q)
both P Q (Ok a) p q = (p, q)
both P Q (Err e) p q = p

-- what files are linked with once their names are declared
declared_as : (w : Linking) (fs : List FileDescriptorProto) (indexes : Indexes) (known : Known)
    → indexes ≡ with_files w.indexes w.first fs
    → known ≡ known_behind w.known (batch_declarations w.before w.first fs)
    → ◌≡◌ {A = Linking} (record w { indexes = indexes; known = known }) (with_declared w fs)
declared_as w fs indexes known placed named =
    λ i. record w { indexes = placed i; known = named i }

pub returns-clause-linked : goal.returns-clause-linked
returns-clause-linked c =
    let fs = c.args.files.items in
    let had = c.args.file_names.now in
    let has = c.declare_names.new.file_names in
    let indexes = indexes_of had in
    let at = batch_places fs c.args.first in
    let were = c.args.names.now in
    let are = c.declare_names.new.names in
    let same : c.as_slice.result.now ≡ fs = search rules in
    let placed = subst (λ l. indexes_of has ≡ with_files indexes c.args.first l) same c.in_ok-declare_names.ensures.files in
    let named = subst (λ l. known_of are ≡ known_behind (known_of were) (batch_declarations c.args.before c.args.first l)) same c.in_ok-declare_names.ensures.names in
    let none = subst (λ l. name_faults indexes (known_of were) c.args.before c.args.first l ≡ []) same c.in_ok-declare_names.ensures.ok in
    let keeps = subst (λ l. KeepsFrom c.args.first (length l) (known_of were) (known_of are)) same c.in_ok-declare_names.ensures.keeps in
    let w = linking had were c.args.links.now.items c.args.tables.now c.args.extension_numbers.now c.args.before c.args.first in
    let is = declared_as w fs (indexes_of has) (known_of are) placed named in
    let of = is_of c.args.tables.now were had c.args.links.now.items c.args.extension_numbers.now c.args.before c.args.first (pool_of c.args.tables.now) c.requires.linked c.requires.before c.requires.first refl in
    let recorded = on_ok_weaker c.link_declared.result (λ b. added_has (pool_of c.args.tables.now) (pool_of c.link_declared.new.tables) fs w of c.requires.linked.headers
    (subst (λ u. FaultlessBatch u fs (pool_of c.link_declared.new.tables)) is b) c.requires.linked.placed) c.link_declared.ensures.accepted in
    let new = c.link_declared.new.tables in
    let kept_so = both (AreStored (pool_of new).records new.messages.items) (HaveRecords (pool_of new)) c.link_declared.result c.link_declared.ensures.stored recorded in
    by c.link_declared.result c.link_declared.ensures.pooled c.link_declared.ensures.files c.link_declared.ensures.messages c.link_declared.ensures.enums c.link_declared.ensures.extensions c.link_declared.ensures.services c.link_declared.ensures.numbered
    c.link_declared.ensures.linked c.link_declared.ensures.records kept_so
    (λ pooled files ms es xs ss numbered links adds kept. linked_more c.args.tables.now
    c.link_declared.new.tables were are had has c.args.extension_numbers.now
    c.link_declared.new.extension_numbers c.args.links.now.items c.link_declared.new.links.items
    at c.args.before c.args.first fs
    c.requires.linked c.requires.before c.requires.first placed (none_left (files_faults at indexes c.args.first fs) _ none)
    named (none_right (files_faults at indexes c.args.first fs) _ none) keeps pooled files
    (record { messages = ms; enums = es; extensions = xs; services = ss }) numbered links adds
    kept.0 kept.1)

pub returns-in_err-declare_names-clause-refused : goal.returns-in_err-declare_names-clause-refused
returns-in_err-declare_names-clause-refused c =
    let w = linking c.args.file_names.now c.args.names.now c.args.links.now.items c.args.tables.now c.args.extension_numbers.now c.args.before c.args.first in
    let p = err_from_is_err_and c.from_residual.result c.from_residual.ensures.1 in
    let names = λ (e : DescriptorError). ListsFaults (λ xs. xs ≡ name_faults w.indexes w.known w.before w.first c.as_slice.result.now) e in
    refused_names w c.args.files.items c.from_residual.result c.as_slice.result.now p.0 p.1 c.as_slice.ensures.value (subst names (sym p.2) c.in_err-declare_names.ensures.err)

pub returns-clause-refused : goal.returns-clause-refused
returns-clause-refused c =
    let fs = c.args.files.items in
    let w = linking c.args.file_names.now c.args.names.now c.args.links.now.items c.args.tables.now c.args.extension_numbers.now c.args.before c.args.first in
    let v = linking c.declare_names.new.file_names c.declare_names.new.names c.args.links.now.items c.args.tables.now c.args.extension_numbers.now c.args.before c.args.first in
    let same = c.as_slice.ensures.value in
    let none = subst (λ l. name_faults w.indexes w.known w.before w.first l ≡ []) same c.in_ok-declare_names.ensures.ok in
    let placed = subst (λ l. v.indexes ≡ with_files w.indexes w.first l) same c.in_ok-declare_names.ensures.files in
    let named = subst (λ l. v.known ≡ known_behind w.known (batch_declarations w.before w.first l)) same c.in_ok-declare_names.ensures.names in
    let is = declared_as w fs v.indexes v.known placed named in
    refused_behind w fs c.link_declared.result v none is c.link_declared.ensures.refused

pub returns-clause-added : goal.returns-clause-added
returns-clause-added c =
    let fs = c.args.files.items in
    by c.link_declared.result c.link_declared.ensures.pooled c.link_declared.ensures.files
    c.link_declared.ensures.messages c.link_declared.ensures.enums
    c.link_declared.ensures.extensions c.link_declared.ensures.services
    c.link_declared.ensures.numbered c.link_declared.ensures.linked
    c.link_declared.ensures.records c.link_declared.ensures.stored
    (λ pooled files ms es xs ss numbered links adds stored. record {
      files = files;
      names = all_go_on c.args.tables.now c.link_declared.new.tables (batch_declarations c.args.before c.args.first fs) (record { messages = ms; enums = es; extensions = xs; services = ss });
    })

pub returns-clause-accepted : goal.returns-clause-accepted
returns-clause-accepted c =
    let fs = c.args.files.items in
    let w = linking c.args.file_names.now c.args.names.now c.args.links.now.items c.args.tables.now c.args.extension_numbers.now c.args.before c.args.first in
    let v = linking c.declare_names.new.file_names c.declare_names.new.names c.args.links.now.items c.args.tables.now c.args.extension_numbers.now c.args.before c.args.first in
    let same = c.as_slice.ensures.value in
    let none = subst (λ l. name_faults w.indexes w.known w.before w.first l ≡ []) same c.in_ok-declare_names.ensures.ok in
    let placed = subst (λ l. v.indexes ≡ with_files w.indexes w.first l) same c.in_ok-declare_names.ensures.files in
    let named = subst (λ l. v.known ≡ known_behind w.known (batch_declarations w.before w.first l)) same c.in_ok-declare_names.ensures.names in
    let is = declared_as w fs v.indexes v.known placed named in
    on_ok_weaker c.link_declared.result (λ b. (none, subst (λ u. FaultlessBatch u fs (pool_of c.link_declared.new.tables)) is b)) c.link_declared.ensures.accepted
