use Rattle.std.proofs.Common.{◌∙◌, map, fold, ap, sym, refl}
use Rattle.descriptor_records.specs.Content.{file_view}
use Rattle.reflect_known.specs.GivenNames.{names_of_file}
use Rattle.reflect_tables.specs.Views.{file_of, pool_of, record_of}
use Rattle.reflect_growth.specs.Put.{edited}
use Rattle.reflect_growth.specs.Settled.{bare_file, bare_of, stored_view}
use Rattle.reflect_growth.proofs.Filters.{map_map}
use Rattle.reflect_growth.proofs.Told.{file_told, file_seen, header_told, header_seen, through}
use Rattle.reflect_growth.proofs.Kept.{edits_kept, header_kept, names_kept}
use Rattle.reflect_growth.proofs.Bare.{bare_kept, bare_moved}
use Rattle.reflect_growth.proofs.settle.settle_all.Goals as goal

pub returns-clause-settled : goal.returns-clause-settled
returns-clause-settled c =
    let old = c.args.tables.now.files.items in
    let new = c.settle_edits.new.files.items in
    let files = through header_told stored_view file_of (λ x. header_seen x.«record») new
    ∙ ap (map header_told) c.settle_edits.ensures.put
    ∙ edits_kept header_told header_kept (λ k path f. refl) c.args.edits.items (map stored_view old)
    ∙ sym (through header_told stored_view file_of (λ x. header_seen x.«record») old) in
    λ i. record (pool_of c.args.tables.now) {
      files = files i;
      records = map record_of new;
      declared = c.settle_edits.ensures.declared i;
    }

pub returns-clause-put : goal.returns-clause-put
returns-clause-put c =
    let old = c.args.tables.now.files.items in
    let new = c.settle_edits.new.files.items in
    map_map file_view record_of new ∙ c.settle_edits.ensures.put
    ∙ ap (λ fs. fold edited fs c.args.edits.items) (sym (map_map file_view record_of old))

pub returns-clause-names : goal.returns-clause-names
returns-clause-names c =
    let old = map record_of c.args.tables.now.files.items in
    let new = map record_of c.settle_edits.new.files.items in
    through file_told file_view names_of_file file_seen new
    ∙ ap (map file_told) (returns-clause-put c)
    ∙ edits_kept file_told names_kept (λ k path f. refl) c.args.edits.items (map file_view old)
    ∙ sym (through file_told file_view names_of_file file_seen old)

pub returns-clause-bare : goal.returns-clause-bare
returns-clause-bare c =
    let old = map record_of c.args.tables.now.files.items in
    let new = map record_of c.settle_edits.new.files.items in
    through bare_file file_view bare_of (λ x. refl) new
    ∙ ap (map bare_file) (returns-clause-put c)
    ∙ edits_kept bare_file bare_kept bare_moved c.args.edits.items (map file_view old)
    ∙ sym (through bare_file file_view bare_of (λ x. refl) old)
