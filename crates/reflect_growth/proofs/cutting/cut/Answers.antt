use Rattle.std.proofs.Common.{map, nat_lt, sym, ap, ◌∙◌}
use Rattle.std.proofs.lemmas.List.{take-map}
use Rattle.reflect_tables.specs.Views.{file_of, record_of, places_of, message_of}
use Rattle.reflect_growth.proofs.Filters.{map-filter}
use Rattle.reflect_growth.proofs.cutting.cut.Goals as goal

pub returns-clause-pool : goal.returns-clause-pool
returns-clause-pool c =
    let old = c.args.tables.now in
    let mark = c.args.mark in
    let files = ap (map file_of) c.truncate.ensures.items ∙ sym (take-map file_of mark old.files.items) in
    let records = ap (map record_of) c.truncate.ensures.items ∙ sym (take-map record_of mark old.files.items) in
    let declared = ap (map places_of) c.truncate.ensures.items ∙ sym (take-map places_of mark old.files.items) in
    let messages = ap (map message_of) c.cut_messages.ensures
    ∙ map-filter message_of (λ m. nat_lt m.file mark) old.messages.items in
    λ i. record { files = files i; records = records i; declared = declared i; messages = messages i; enums = c.cut_enums.ensures i; extensions = c.cut_extensions.ensures i; services = c.cut_services.ensures i }

pub returns-clause-messages : goal.returns-clause-messages
returns-clause-messages c = c.cut_messages.ensures
