use Rattle.std.proofs.Common.{◌≡◌, Some, false, is_some, ap, sym, subst, ◌∙◌, string_bytes, rules}
use Rattle.std.proofs.Math.Path.{fun_ext}
use Rattle.std.proofs.lemmas.Map.Text.{btree_map_updates_text}
use Rattle.std.specs.Map.{update}
use Rattle.std.specs.Str.{bytes_eq}
use Rattle.reflect_faults.specs.Faults.{Adds, place_at}
use Rattle.reflect_scope.specs.FileIndexes.{indexes_of}
use Rattle.reflect_names.specs.FileNames.{file_faults, with_file}
use Rattle.reflect_faults.proofs.Added.{adds_none}
use Rattle.reflect_names.proofs.FileRuns.{with_new, faults_new, keeps_new}
use Rattle.reflect_names.proofs.imports.name_file.Goals.{In_ok-insert}
use Rattle.reflect_names.proofs.imports.name_file.Goals as goal

puts : (c : In_ok-insert) → indexes_of c.insert.new.self ≡ update bytes_eq (indexes_of c.args.file_names.now) (string_bytes c.in-Some.name) (Some c.args.index)
puts c =
    let known = indexes_of c.args.file_names.now in
    let i = c.args.index in
    let name = c.in_ok-name.name in
    let same : string_bytes name ≡ string_bytes c.in-Some.name = search rules in
    fun_ext (btree_map_updates_text (string_bytes name) c.args.file_names.now c.insert.new.self (Some i) c.in_ok-insert.ensures.updates) ∙ ap (λ n. update bytes_eq known n (Some i)) same

pub returns-clause-names : goal.returns-clause-names
returns-clause-names c =
    let known = indexes_of c.args.file_names.now in
    let i = c.args.index in
    let s = c.in-Some.name in
    let new : is_some (known (string_bytes s)) ≡ false = search rules in
    let is = c.in-Some.is in
    puts c ∙ sym (with_new known i s new) ∙ ap (with_file known i) (sym is)

pub returns-clause-faults : goal.returns-clause-faults
returns-clause-faults c =
    let known = indexes_of c.args.file_names.now in
    let s = c.in-Some.name in
    let f = c.args.faults.now in
    let at = place_at f c.args.index in
    let new : is_some (known (string_bytes s)) ≡ false = search rules in
    subst (Adds f f) (sym (faults_new at known s new) ∙ ap (file_faults at known) (sym c.in-Some.is)) (adds_none f)

pub returns-clause-keeps : goal.returns-clause-keeps
returns-clause-keeps c =
    let known = indexes_of c.args.file_names.now in
    let s = c.in-Some.name in
    let new : is_some (known (string_bytes s)) ≡ false = search rules in
    keeps_new known (indexes_of c.insert.new.self) c.args.index (string_bytes s) new (puts c)
