use Rattle.std.proofs.Common.{◌∙◌, ◌++◌, ℕ, List, ap, sym}
use Rattle.std.proofs.lemmas.List.{append-nil}
use Rattle.reflect_wire.specs.Encoding.{delimited_bytes}
use Rattle.reflect_codec.specs.Fields.{records_field}
use Rattle.reflect_codec.specs.Written.{file_bytes}
use Rattle.reflect_link.specs.FilesLeft.{records_left}
use Rattle.reflect_bytes.proofs.Appended.{one_more}
use Rattle.reflect_bytes.proofs.pool_bytes.set_bytes.Goals as goal

pub files-init : goal.files-init
files-init c = record {
  rest = ap (λ (set : List ℕ). set ++ records_field file_bytes 1 (records_left c.into_iter-file-iterator.result)) c.new-set.ensures.items
      ∙ ap (λ i. records_field file_bytes 1 (records_left i)) c.into_iter-file-iterator.ensures.into_iter_gives
      ∙ ap (records_field file_bytes 1) c.file_descriptor_protos-file-items.ensures;
}

pub files-preserved : goal.files-preserved
files-preserved c =
    let body = c.as_slice.ensures.value ∙ c.in_ok-encode_file.ensures.ok ∙ ap (λ (bytes : List ℕ). bytes ++ file_bytes c.in-Some.file.now) c.new-bytes.ensures.items in
    let left = ap (λ files. c.files.set.items ++ records_field file_bytes 1 files) (sym c.in-Some.ensures.steps) in
    record { rest = one_more c.files.set.items c.push_key.new.out.items c.push_delimited.new.out.items _ _ _ _ c.in_ok-push_key.ensures.ok (c.in_ok-push_delimited.ensures.ok ∙ ap (λ p. c.push_key.new.out.items ++ delimited_bytes p) body) (left ∙ c.files.invariant.rest) }

pub returns-clause-ok : goal.returns-clause-ok
returns-clause-ok c =
    sym (append-nil c.files.set.items) ∙ ap (λ files. c.files.set.items ++ records_field file_bytes 1 files) (sym c.in-None.ensures.steps.0) ∙ c.files.invariant.rest
