use Rattle.source_grammar.proofs.Firsts.{tells_in_blocks}
use Rattle.source_grammar.proofs.ViableFiles.{viable_file, finished}
use Rattle.source_grammar.proofs.refusals.files_are_refused_at_the_first_such_token.Goals as goal

pub returns : goal.returns
returns c = tells_in_blocks finished viable_file
