use Rattle.std.proofs.Common.{Some, refl}
use Rattle.std.proofs.lemmas.Option.{same_Some}
use Rattle.stored_options.proofs.OnePlace.{one_place_told}
use Rattle.stored_options.proofs.TwinBatches.{twins_built}
use Rattle.stored_options.proofs.TwinPools.{twins_itself}
use Rattle.stored_options.proofs.refused.refusals_of_files_are_at_one_place.Goals as goal

pub returns-clause-once : goal.returns-clause-once
returns-clause-once c = λ pool first place other e f whole sound refuses also.
    one_place_told pool pool whole whole (twins_itself pool sound) refl (λ scope can. can) (λ scope can. can) first place other e f refuses also

pub returns-clause-twice : goal.returns-clause-twice
returns-clause-twice c = λ batches pool again first place other e f a b whole whole_too sound also same refuses refused.
    same_Some place other
    (one_place_told pool again whole whole_too (twins_built batches pool again a b whole whole_too same sound also) same
    (λ scope can. refused.0 scope) (λ scope can. refuses.0 scope) first (Some place) (Some other) e f refuses refused)
