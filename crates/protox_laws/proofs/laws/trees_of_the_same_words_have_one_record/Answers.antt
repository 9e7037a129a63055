use Rattle.protox_laws.proofs.Files.{file_carried, one_record}
use Rattle.protox_laws.proofs.laws.trees_of_the_same_words_have_one_record.Goals as goal

pub returns-clause-same : goal.returns-clause-same
returns-clause-same c = λ name s t made e h. file_carried s t e name made h

pub returns-clause-one : goal.returns-clause-one
returns-clause-one c = one_record
