-- Settling the files of a pool from an index on leaves the files before it.
use Rattle.std.proofs.Common.{◌≡◌, ◌<◌, ◌+◌, ◌-◌, ◌∙◌, ℕ, zero, suc, List, map, length, slice_get, ap, sym, subst, arith}
use Rattle.std.specs.List.{AllByRecursion}
use Rattle.descriptor_records.specs.Content.{FileContent, file_view}
use Rattle.protobuf_model.proofs.Arranged.{all_append}
use Rattle.reflect_growth.specs.declared.settle.Edit.{Edit}
use Rattle.reflect_options.specs.Settling.{SettlesFiles, SettlesPool}
use Rattle.reflect_tables.specs.Types.{PoolType}
use Rattle.settled_records.proofs.Changes.{IsElsewhere, edits_elsewhere}
use Rattle.settled_records.proofs.Placed.{all_elsewhere, file_edits}

-- edits of files behind one of them leave it
files_behind : (pool : PoolType) (first n k : ℕ) (es : List Edit) → k < first → SettlesFiles pool first n es → AllByRecursion (IsElsewhere k) es
files_behind pool first zero k es less none = subst (AllByRecursion (IsElsewhere k)) (sym none) tt
files_behind pool first (suc n) k es less (front, own, f, settled, there, settles, is) =
    let apart : first + n ≡ k → ⊥ = λ e. omega (arith, e, less) in
    subst (AllByRecursion (IsElsewhere k)) (sym is)
    (all_append (IsElsewhere k) front own (files_behind pool first n k front less settled)
    (all_elsewhere (first + n) k apart own (file_edits pool (first + n) f own settles)))

pub front_stays : (pool new : PoolType) (first k : ℕ) → SettlesPool pool first new → k < first → slice_get (map file_view new.records) k ≡ slice_get (map file_view pool.records) k
front_stays pool new first k settles less =
    ap (λ (fs : List FileContent). slice_get fs k) settles.put
    ∙ edits_elsewhere k settles.edits (map file_view pool.records) (files_behind pool first (length pool.files - first) k settles.edits less settles.settled)
