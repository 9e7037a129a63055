use Rattle.std.proofs.Common.{◌∙◌, ap, sym, rules}
use Rattle.std.specs.Option.{option_map}
use Rattle.std.specs.Prelude.{Some}
use Rattle.descriptor_records.specs.Content.{FileContent, file_view, location_view, source_info_view}
use Rattle.reflect_growth.specs.Put.{location_put, with_at}
use Rattle.reflect_growth.proofs.Puts.{put_at, put_past}
use Rattle.reflect_growth.proofs.settle.move_location.Goals as goal

pub returns-in-Some-get_mut : goal.returns-in-Some-get_mut
returns-in-Some-get_mut c =
    let f = c.args.file.now in
    let h = location_put c.args.path.items in
    let same = put_at location_view h c.in-Some.info.location.items c.args.place _
    c.in-Some-get_mut.location.now
    (ap (λ l. h (location_view l)) c.in-Some-get_mut.ensures.value) in
    ap {B = FileContent} (λ ls. record (file_view f) { source_code_info = Some ls }) same
    ∙ ap {B = FileContent}
    (λ o. record (file_view f)
    { source_code_info = option_map (with_at c.args.place h) (option_map source_info_view o) })
    (sym c.in-Some.is)

pub returns-in_default-get_mut : goal.returns-in_default-get_mut
returns-in_default-get_mut c =
    let f = c.args.file.now in
    let h = location_put c.args.path.items in
    let same = put_past location_view h c.in-Some.info.location.items c.args.place
    (search rules) in
    ap {B = FileContent} (λ ls. record (file_view f) { source_code_info = Some ls }) same
    ∙ ap {B = FileContent}
    (λ o. record (file_view f)
    { source_code_info = option_map (with_at c.args.place h) (option_map source_info_view o) })
    (sym c.in-Some.is)
