use Rattle.std.proofs.Common.{refl, length, ◌≡◌, ◌∙◌, ◌++◌, [], List, Result, Ok, Err, OnOk, is_ok, map, ap, sym, subst, rules, of_calls}
use Rattle.std.proofs.Math.ListN.{length-map}
use Rattle.std.proofs.lemmas.Result.{err_from_is_err_and}
use Rattle.reflect_index.proofs.Known.{none_right}
use Rattle.reflect_tables.specs.ExtensionNumbers.{numbers_of}
use Rattle.reflect_passes.specs.Extensions.{with_numbers}
use Rattle.reflect_pool.specs.Linked.{AreNumbered, key_of}
use Rattle.reflect_build.proofs.Numbered.{keys_behind, numbered_more, stored_key}
use Rattle.reflect_faults.specs.Faults.{list_of, place_at}
use Rattle.reflect_passes.specs.Errors.{ListsFaults}
use Rattle.reflect_passes.specs.NumberFaults.{NumberFaults, doubled}
use Rattle.reflect_passes.proofs.Listed.{places}
use Rattle.reflect_build.specs.Refusals.{linking}
use Rattle.reflect_build.proofs.Accepting.{added_behind, goes_behind, records_behind, records_written, faultless}
use Rattle.reflect_build.proofs.Marked.{all_say}
use Rattle.reflect_build.proofs.Stored.{stored_more}
use Rattle.reflect_build.proofs.Refused.{mapped, before_mapped, types_with, types_of, means_of, refused_numbers, refused_extensions, refused_walk, refused_last}
use Rattle.reflect_declarations.specs.Batches.{batch_declarations}
use Rattle.reflect_tables.specs.Names.{FullName, messages, enums, extensions, services}
use Rattle.reflect_known.specs.DeclaredNames.{with_names}
use Rattle.reflect_tables.specs.Views.{file_of, record_of, extension_of, pool_of}
use Rattle.reflect_index.specs.DraftNames.{stored_message_name, stored_enum_name, stored_extension_name, stored_service_name}
use Rattle.reflect_build.proofs.Pooled.{map-append}
use Rattle.reflect_build.proofs.batch.link_declared.Goals as goal

on_mapped : {A E D : Type 0} (P Q : Type 0) (r : Result A E) (s : Result A D) → is_ok s ≡ is_ok r → (P → Q) → OnOk r P → OnOk s Q
on_mapped P Q (Ok x) (Ok y) e f h = f h
on_mapped P Q (Ok x) (Err y) e f h = tt
on_mapped P Q (Err x) (Ok y) e f h = absurd (cc)
on_mapped P Q (Err x) (Err y) e f h = tt

goes_on : {X : Type 0} (f : X → FullName) (olds mores news batch : List X) (names : List FullName) → news ≡ olds ++ mores → mores ≡ batch → map f batch ≡ names → map f news ≡ map f olds ++ names
goes_on f olds mores news batch names a b c = ap (map f) a ∙ map-append f olds mores ∙ ap (λ l. map f olds ++ l) (ap (map f) b ∙ c)

pub returns-clause-files : goal.returns-clause-files
returns-clause-files c =
    let files = mapped _ _ c.with_records.result c.map_err-3.result c.map_err-3.ensures.cases c.with_records.ensures.files c.in_ok-more.more c.in_ok-more.was in
    on_mapped _ _ c.add.result c.map_err-4.result c.map_err-4.ensures.variant
    (λ a. ap (map file_of) a.files
    ∙ map-append file_of c.args.tables.now.files.items c.in_ok-more.more.files.items
    ∙ ap (λ l. map file_of c.args.tables.now.files.items ++ l)
    (files ∙ c.rewritten.ensures.headers)) c.add.ensures.appended

pub returns-clause-messages : goal.returns-clause-messages
returns-clause-messages c =
    let batch = mapped _ _ c.index_files.result c.map_err-2.result c.map_err-2.ensures.cases c.index_files.ensures.messages c.in_ok-batch.batch c.in_ok-batch.was in
    let same : c.as_slice-4.result.now ≡ c.args.files.items = search rules in
    let more = mapped _ _ c.with_records.result c.map_err-3.result c.map_err-3.ensures.cases c.with_records.ensures.messages c.in_ok-more.more c.in_ok-more.was in
    on_mapped _ _ c.add.result c.map_err-4.result c.map_err-4.ensures.variant
    (λ a. goes_on stored_message_name c.args.tables.now.messages.items c.in_ok-more.more.messages.items c.add.new.tables.messages.items c.in_ok-batch.batch.messages.items _ a.messages more (batch ∙ ap (λ l. with_names messages [] (batch_declarations c.args.before c.args.first l)) same)) c.add.ensures.appended

pub returns-clause-enums : goal.returns-clause-enums
returns-clause-enums c =
    let batch = mapped _ _ c.index_files.result c.map_err-2.result c.map_err-2.ensures.cases c.index_files.ensures.enums c.in_ok-batch.batch c.in_ok-batch.was in
    let same : c.as_slice-4.result.now ≡ c.args.files.items = search rules in
    let more = mapped _ _ c.with_records.result c.map_err-3.result c.map_err-3.ensures.cases c.with_records.ensures.enums c.in_ok-more.more c.in_ok-more.was in
    on_mapped _ _ c.add.result c.map_err-4.result c.map_err-4.ensures.variant
    (λ a. goes_on stored_enum_name c.args.tables.now.enums.items c.in_ok-more.more.enums.items c.add.new.tables.enums.items c.in_ok-batch.batch.enums.items _ a.enums more (batch ∙ ap (λ l. with_names enums [] (batch_declarations c.args.before c.args.first l)) same)) c.add.ensures.appended

pub returns-clause-extensions : goal.returns-clause-extensions
returns-clause-extensions c =
    let batch = mapped _ _ c.index_files.result c.map_err-2.result c.map_err-2.ensures.cases c.index_files.ensures.extensions c.in_ok-batch.batch c.in_ok-batch.was in
    let same : c.as_slice-4.result.now ≡ c.args.files.items = search rules in
    let more = mapped _ _ c.with_records.result c.map_err-3.result c.map_err-3.ensures.cases c.with_records.ensures.extensions c.in_ok-more.more c.in_ok-more.was in
    on_mapped _ _ c.add.result c.map_err-4.result c.map_err-4.ensures.variant
    (λ a. goes_on stored_extension_name c.args.tables.now.extensions.items c.in_ok-more.more.extensions.items c.add.new.tables.extensions.items c.in_ok-batch.batch.extensions.items _ a.extensions more (batch ∙ ap (λ l. with_names extensions [] (batch_declarations c.args.before c.args.first l)) same)) c.add.ensures.appended

pub returns-clause-services : goal.returns-clause-services
returns-clause-services c =
    let batch = mapped _ _ c.index_files.result c.map_err-2.result c.map_err-2.ensures.cases c.index_files.ensures.services c.in_ok-batch.batch c.in_ok-batch.was in
    let same : c.as_slice-4.result.now ≡ c.args.files.items = search rules in
    let more = mapped _ _ c.with_records.result c.map_err-3.result c.map_err-3.ensures.cases c.with_records.ensures.services c.in_ok-more.more c.in_ok-more.was in
    on_mapped _ _ c.add.result c.map_err-4.result c.map_err-4.ensures.variant
    (λ a. goes_on stored_service_name c.args.tables.now.services.items c.in_ok-more.more.services.items c.add.new.tables.services.items c.in_ok-batch.batch.services.items _ a.services more (batch ∙ ap (λ l. with_names services [] (batch_declarations c.args.before c.args.first l)) same)) c.add.ensures.appended

pub returns-clause-records : goal.returns-clause-records
returns-clause-records c =
    let records = mapped _ _ c.with_records.result c.map_err-3.result c.map_err-3.ensures.cases
    c.with_records.ensures.records c.in_ok-more.more c.in_ok-more.was in
    on_mapped _ _ c.add.result c.map_err-4.result c.map_err-4.ensures.variant
    (λ a. records_behind c.args.tables.now c.in_ok-more.more c.add.new.tables
    c.rewritten.result.items c.args.files.items a records c.rewritten.ensures.names)
    c.add.ensures.appended

pub returns-clause-stored : goal.returns-clause-stored
returns-clause-stored c =
    let olds = c.args.tables.now.messages.items in
    let w = linking c.args.file_names.now c.args.names.now c.args.links.now.items c.args.tables.now c.args.extension_numbers.now c.args.before c.args.first in
    let fs = c.args.files.items in
    let rs = c.in_ok-references.references.items in
    let batch = c.in_ok-batch.batch in
    let made = c.index_files.ensures in
    let types = types_of w fs c.as_slice-4.result.now rs c.as_slice-5.result.now _ c.index_files.result c.map_err-2.result c.as_slice-4.ensures.value c.as_slice-5.ensures.value c.map_err-2.ensures.cases made.messages made.ranges made.enums made.values made.extensions made.entries batch c.in_ok-batch.was in
    let t = types_with w batch in
    let none = subst (λ l. NumberFaults t w.before w.first l rs []) c.as_slice-6.ensures.value
    (subst (λ l. NumberFaults t w.before w.first c.as_slice-6.result.now l []) c.as_slice-7.ensures.value c.in_ok-check_numbers.ensures.ok) in
    let records = mapped _ _ c.with_records.result c.map_err-3.result c.map_err-3.ensures.cases
    c.with_records.ensures.records c.in_ok-more.more c.in_ok-more.was in
    let more = mapped _ _ c.with_records.result c.map_err-3.result c.map_err-3.ensures.cases c.with_records.ensures.messages c.in_ok-more.more c.in_ok-more.was in
    on_mapped _ _ c.add.result c.map_err-4.result c.map_err-4.ensures.variant
    (λ a. stored_more (pool_of c.args.tables.now).records fs c.rewritten.result.items
    (pool_of c.add.new.tables).records rs c.args.before c.args.first olds batch.messages.items
    c.add.new.tables.messages.items c.requires.stored types.ranges (all_say w fs rs t types none)
    c.rewritten.ensures.records
    (goes_behind record_of c.args.tables.now.files.items c.in_ok-more.more.files.items
    c.add.new.tables.files.items c.rewritten.result.items a.files records)
    (a.messages ∙ ap (λ l. olds ++ l) more))
    c.add.ensures.appended

pub returns-clause-numbered : goal.returns-clause-numbered
returns-clause-numbered c =
    let items = c.args.tables.now.extensions.items in
    let w = linking c.args.file_names.now c.args.names.now c.args.links.now.items c.args.tables.now c.args.extension_numbers.now c.args.before c.args.first in
    let batch = c.in_ok-batch.batch in
    let t = types_with w batch in
    let f = c.new.result in
    let keys = map key_of (map extension_of items) in
    let count : length keys ≡ length items = length-map (map extension_of items) key_of ∙ length-map items extension_of in
    let none = none_right (list_of f) (doubled w.numbers t (place_at f)) c.in_ok-list_extensions.ensures.ok in
    let all = numbered_more t (place_at f) w.numbers (numbers_of c.args.extension_numbers.now) keys batch.extensions.items (λ k. refl) none c.requires.numbered in
    let put = subst (λ g. AreNumbered g (keys ++ map stored_key batch.extensions.items)) (sym c.in_ok-list_extensions.ensures.places)
    (subst (λ n. AreNumbered (with_numbers (numbers_of c.args.extension_numbers.now) n batch.extensions.items) (keys ++ map stored_key batch.extensions.items)) count all) in
    let more = mapped _ _ c.with_records.result c.map_err-3.result c.map_err-3.ensures.cases c.with_records.ensures.extensions c.in_ok-more.more c.in_ok-more.was in
    on_mapped _ _ c.add.result c.map_err-4.result c.map_err-4.ensures.variant
    (λ a. subst (λ ks. AreNumbered (numbers_of c.list_extensions.new.numbers) ks) (sym (keys_behind items c.in_ok-more.more.extensions.items c.add.new.tables.extensions.items batch.extensions.items a.extensions more)) put) c.add.ensures.appended

pub returns-in_err-check_numbers-clause-refused : goal.returns-in_err-check_numbers-clause-refused
returns-in_err-check_numbers-clause-refused c =
    let w = linking c.args.file_names.now c.args.names.now c.args.links.now.items c.args.tables.now c.args.extension_numbers.now c.args.before c.args.first in
    let fs = c.args.files.items in
    let rs = c.in_ok-references.references.items in
    let batch = c.in_ok-batch.batch in
    let made = c.index_files.ensures in
    let types = types_of w fs c.as_slice-4.result.now rs c.as_slice-5.result.now _ c.index_files.result c.map_err-2.result c.as_slice-4.ensures.value c.as_slice-5.ensures.value c.map_err-2.ensures.cases made.messages made.ranges made.enums made.values made.extensions made.entries batch c.in_ok-batch.was in
    let added = before_mapped _ c.add_links.result c.map_err.result c.in_ok-map_err.field-0 c.map_err.ensures.variant c.in_ok-map_err.was c.add_links.ensures.added in
    let means = means_of w fs rs c.as_slice.result.now c.as_slice-2.result.now c.add_links.new.links.items c.as_slice-3.result.now c.as_slice.ensures.value c.as_slice-2.ensures.value c.as_slice-3.ensures.value added c.in_ok-references.ensures.ok in
    let t = types_with w batch in
    let r = c.from_residual-in_err-check_numbers in
    let p = err_from_is_err_and r.result r.ensures.1 in
    let says = subst (λ e. ListsFaults (NumberFaults t w.before w.first c.as_slice-6.result.now c.as_slice-7.result.now) e) (sym p.2) c.in_err-check_numbers.ensures.err in
    refused_numbers w fs rs t means types r.result p.0 p.1
    (subst (λ l. ListsFaults (NumberFaults t w.before w.first l rs) p.0) c.as_slice-6.ensures.value
    (subst (λ l. ListsFaults (NumberFaults t w.before w.first c.as_slice-6.result.now l) p.0) c.as_slice-7.ensures.value says))

pub returns-in_err-list_extensions-clause-refused : goal.returns-in_err-list_extensions-clause-refused
returns-in_err-list_extensions-clause-refused c =
    let w = linking c.args.file_names.now c.args.names.now c.args.links.now.items c.args.tables.now c.args.extension_numbers.now c.args.before c.args.first in
    let fs = c.args.files.items in
    let rs = c.in_ok-references.references.items in
    let batch = c.in_ok-batch.batch in
    let made = c.index_files.ensures in
    let types = types_of w fs c.as_slice-4.result.now rs c.as_slice-5.result.now _ c.index_files.result c.map_err-2.result c.as_slice-4.ensures.value c.as_slice-5.ensures.value c.map_err-2.ensures.cases made.messages made.ranges made.enums made.values made.extensions made.entries batch c.in_ok-batch.was in
    let added = before_mapped _ c.add_links.result c.map_err.result c.in_ok-map_err.field-0 c.map_err.ensures.variant c.in_ok-map_err.was c.add_links.ensures.added in
    let means = means_of w fs rs c.as_slice.result.now c.as_slice-2.result.now c.add_links.new.links.items c.as_slice-3.result.now c.as_slice.ensures.value c.as_slice-2.ensures.value c.as_slice-3.ensures.value added c.in_ok-references.ensures.ok in
    let t = types_with w batch in
    let r = c.from_residual-in_err-list_extensions in
    let p = err_from_is_err_and r.result r.ensures.1 in
    let f = c.new.result in
    let none = subst (λ l. NumberFaults t w.before w.first l rs []) c.as_slice-6.ensures.value
    (subst (λ l. NumberFaults t w.before w.first c.as_slice-6.result.now l []) c.as_slice-7.ensures.value c.in_ok-check_numbers.ensures.ok) in
    let says = subst (λ e. ListsFaults (λ xs. xs ≡ list_of f ++ doubled w.numbers t (place_at f)) e) (sym p.2) c.in_err-list_extensions.ensures.err in
    refused_extensions w fs rs t means types r.result p.0 p.1 f none c.new.ensures.none
    (places f fs w.first (c.new.ensures.files ∙ c.as_slice-8.ensures.value) c.new.ensures.first) says

pub returns-clause-accepted : goal.returns-clause-accepted
returns-clause-accepted c =
    let w = linking c.args.file_names.now c.args.names.now c.args.links.now.items c.args.tables.now c.args.extension_numbers.now c.args.before c.args.first in
    let fs = c.args.files.items in
    let rs = c.in_ok-references.references.items in
    let batch = c.in_ok-batch.batch in
    let made = c.index_files.ensures in
    let types = types_of w fs c.as_slice-4.result.now rs c.as_slice-5.result.now _ c.index_files.result c.map_err-2.result c.as_slice-4.ensures.value c.as_slice-5.ensures.value c.map_err-2.ensures.cases made.messages made.ranges made.enums made.values made.extensions made.entries batch c.in_ok-batch.was in
    let added = before_mapped _ c.add_links.result c.map_err.result c.in_ok-map_err.field-0 c.map_err.ensures.variant c.in_ok-map_err.was c.add_links.ensures.added in
    let means = means_of w fs rs c.as_slice.result.now c.as_slice-2.result.now c.add_links.new.links.items c.as_slice-3.result.now c.as_slice.ensures.value c.as_slice-2.ensures.value c.as_slice-3.ensures.value added c.in_ok-references.ensures.ok in
    let t = types_with w batch in
    let none = subst (λ l. NumberFaults t w.before w.first l rs []) c.as_slice-6.ensures.value
    (subst (λ l. NumberFaults t w.before w.first c.as_slice-6.result.now l []) c.as_slice-7.ensures.value c.in_ok-check_numbers.ensures.ok) in
    let f = c.new.result in
    let at = places f fs w.first (c.new.ensures.files ∙ c.as_slice-8.ensures.value) c.new.ensures.first in
    on_mapped _ _ c.add.result c.map_err-4.result c.map_err-4.ensures.variant
    (λ a. faultless w fs _ rs t means types
    (added_behind c.args.tables.now c.in_ok-more.more c.add.new.tables batch fs w a
    (mapped _ _ c.with_records.result c.map_err-3.result c.map_err-3.ensures.cases
    c.with_records.ensures.files c.in_ok-more.more c.in_ok-more.was
    ∙ c.rewritten.ensures.headers)
    (mapped _ _ c.with_records.result c.map_err-3.result c.map_err-3.ensures.cases c.with_records.ensures.declared c.in_ok-more.more c.in_ok-more.was)
    (mapped _ _ c.with_records.result c.map_err-3.result c.map_err-3.ensures.cases c.with_records.ensures.messages c.in_ok-more.more c.in_ok-more.was)
    (mapped _ _ c.with_records.result c.map_err-3.result c.map_err-3.ensures.cases c.with_records.ensures.enums c.in_ok-more.more c.in_ok-more.was)
    (mapped _ _ c.with_records.result c.map_err-3.result c.map_err-3.ensures.cases c.with_records.ensures.extensions c.in_ok-more.more c.in_ok-more.was)
    (mapped _ _ c.with_records.result c.map_err-3.result c.map_err-3.ensures.cases
    c.with_records.ensures.services c.in_ok-more.more c.in_ok-more.was)
    (records_behind c.args.tables.now c.in_ok-more.more c.add.new.tables c.rewritten.result.items fs
    a
    (mapped _ _ c.with_records.result c.map_err-3.result c.map_err-3.ensures.cases
    c.with_records.ensures.records c.in_ok-more.more c.in_ok-more.was)
    c.rewritten.ensures.names))
    none f at c.in_ok-list_extensions.ensures.ok
    (records_written c.args.tables.now c.in_ok-more.more c.add.new.tables rs fs
    c.rewritten.result.items a
    (mapped _ _ c.with_records.result c.map_err-3.result c.map_err-3.ensures.cases
    c.with_records.ensures.records c.in_ok-more.more c.in_ok-more.was)
    c.rewritten.ensures.records)) c.add.ensures.appended

pub returns-in_err-map_err-clause-refused : goal.returns-in_err-map_err-clause-refused
returns-in_err-map_err-clause-refused c =
    let w = linking c.args.file_names.now c.args.names.now c.args.links.now.items c.args.tables.now c.args.extension_numbers.now c.args.before c.args.first in
    refused_walk w c.args.files.items _ c.add_links.result c.map_err.result c.map_err.ensures.cases (λ e y h. search (rules, of_calls)) c.in_err-map_err.field-0.0 c.in_err-map_err.was c.from_residual.result c.from_residual.ensures.1

pub returns-in_err-batch-clause-refused : goal.returns-in_err-batch-clause-refused
returns-in_err-batch-clause-refused c =
    let w = linking c.args.file_names.now c.args.names.now c.args.links.now.items c.args.tables.now c.args.extension_numbers.now c.args.before c.args.first in
    refused_walk w c.args.files.items _ c.index_files.result c.map_err-2.result c.map_err-2.ensures.cases (λ e y h. search (rules, of_calls)) c.in_err-batch.field-0.0 c.in_err-batch.was c.from_residual-in_err-batch.result c.from_residual-in_err-batch.ensures.1

pub returns-in_err-more-clause-refused : goal.returns-in_err-more-clause-refused
returns-in_err-more-clause-refused c =
    let w = linking c.args.file_names.now c.args.names.now c.args.links.now.items c.args.tables.now c.args.extension_numbers.now c.args.before c.args.first in
    refused_walk w c.args.files.items _ c.with_records.result c.map_err-3.result c.map_err-3.ensures.cases (λ e y h. search (rules, of_calls)) c.in_err-more.field-0.0 c.in_err-more.was c.from_residual-in_err-more.result c.from_residual-in_err-more.ensures.1

pub returns-clause-refused : goal.returns-clause-refused
returns-clause-refused c =
    let w = linking c.args.file_names.now c.args.names.now c.args.links.now.items c.args.tables.now c.args.extension_numbers.now c.args.before c.args.first in
    refused_last w c.args.files.items _ c.add.result c.map_err-4.result c.map_err-4.ensures.cases (λ e y h. search (rules, of_calls))
