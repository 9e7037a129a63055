use Rattle.schema_laws.proofs.Encoding.{taken}
use Rattle.schema_laws.proofs.Refusing.{not_unknown, text_taken}
use Rattle.schema_laws.proofs.texts.printed_texts_are_taken.Goals as goal

pub returns : goal.returns
returns c = λ s decoded named name bytes text small reads m means plain shallow.
    text_taken s.pool name text (not_unknown s.pool name (reads.1.0.index, reads.1.1.1))
    (taken s.pool s.sound decoded named name bytes text small reads m means plain shallow)
