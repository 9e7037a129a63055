-- A declaration of a batch is a file, or one of those in the content of a file.
use Rattle.std.proofs.Common.{◌≡◌, ◌∙◌, ◌+◌, inl, inr, ℕ, List, [], Some, slice_get, ap, subst}
use Rattle.std.specs.List.{Contains}
use Rattle.descriptor_records.specs.Content.{file_view}
use Rattle.descriptor_records.specs.declared.file.FileDescriptorProto.{FileDescriptorProto}
use Rattle.reflect_index.proofs.Counted.{file_next}
use Rattle.reflect_declarations.specs.Batches.{batch_declarations}
use Rattle.reflect_declarations.specs.Declarations.{Declaration, file_declaration, file_declarations, past_file}
use Rattle.reflect_declarations.specs.declared.offsets.Offsets.{Offsets}
use Rattle.schema_view.specs.Declarations as view
use Rattle.schema_view.proofs.Lists.{contains_cases, contains_map, contains_map_cases}
use Rattle.linked_view.proofs.Known.{batch_file, next_file}
use Rattle.linked_view.proofs.Walked.{Seen, seen, seen_body, told, inner_declarations, file_seen}

pub record IsShown (first : ℕ) (fs : List FileDescriptorProto) (d : Declaration) : Type 0 where
  pub place : ℕ
  pub own : FileDescriptorProto
  pub at : slice_get fs place ≡ Some own
  pub file : d.file ≡ first + place
  pub shown : (b : view.Body) → seen_body d.body ≡ Some b
      → (v : view.Declaration) × Contains (view.declarations (file_view own)) v
      × (v.name ≡ d.name) × (v.body ≡ b)

pub shown_in : (o : Offsets) (i : ℕ) (fs : List FileDescriptorProto) (d : Declaration)
    → Contains (batch_declarations o i fs) d → IsShown i fs d
shown_in o i fs d h =
    let r = batch_file o i fs d h in
    let n = i + r.1 in
    let content = view.declarations (file_view r.2) in
    let inner = inner_declarations r.0 n r.2 in
    record {
      place = r.1;
      own = r.2;
      at = r.3;
      file =
          next_file n r.0 (past_file r.0 r.2) (file_declarations r.0 n r.2) d
          (file_next n r.0 r.2) r.4;
      shown = λ b e. elim (contains_cases (file_declaration [] n r.2) inner d r.4) [
        | inl same ↦ absurd (cc (ap (λ (y : Declaration). seen_body y.body) same ∙ e))
        | inr j ↦ (
            let v = contains_map_cases told content (seen d)
            (subst (λ l. Contains l (seen d)) (file_seen r.0 n r.2) (contains_map seen inner d j)) in
            let body : Some v.0.body ≡ Some b = ap (λ (y : Seen). y.1) v.2 ∙ e in
            (v.0, v.1, ap (λ (y : Seen). y.0) v.2, cc body))
      ];
    }
