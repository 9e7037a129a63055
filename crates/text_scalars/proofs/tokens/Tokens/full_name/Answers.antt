use Rattle.std.proofs.Common.{◌≡◌, string_bytes, rules, true, false, sym, ◌∙◌, arith}
use Rattle.std.specs.contracts.alloc.Global.{the_row}
use Rattle.text_model.specs.Value.{written}
use Rattle.text_scalars.specs.Front.{sees}
use Rattle.text_scalars.specs.Names.{full_name_at}
use Rattle.text_scalars.specs.Reading.{seen_as}
use Rattle.text_scalars.specs.Remaining.{remaining}
use Rattle.text_scalars.proofs.Naming.{begins, word_more, word_missing, all_words, told}
use Rattle.text_scalars.proofs.tokens.Tokens.full_name.Goals as goal

pub returns-in_default-ident-clause-read : goal.returns-in_default-ident-clause-read
returns-in_default-ident-clause-read c =
    let e = begins c.in-Some.first.now (string_bytes c.in_ok-name.name) c.in-Some.field-0-1 (remaining c.args.self.now) (remaining c.ident.new.self) (sym c.in-Some.ensures.found) c.in-Some.ensures.behind c.in_ok-name.ensures.ok in
    let dot : sees 46 (remaining c.words.self) ≡ true = search rules in
    let f = word_missing (string_bytes c.words.name) c.eat.result (remaining c.words.self) (remaining c.eat.new.self) dot (search rules) c.eat.ensures.behind (search rules) in
    told (string_bytes {Z = the_row.Denot}) (seen_as written (full_name_at (remaining c.args.self.now))) c.refuse-in_default-ident.result (remaining c.ident-in-words.new.self) (rw (e ∙ sym c.words.invariant.whole ∙ f) (search rules))

pub words-preserved : goal.words-preserved
words-preserved c =
    let dot : sees 46 (remaining c.words.self) ≡ true = search rules in
    record {
      more = omega (arith, c.words.invariant.more, c.eat.ensures.more, c.ident-in-words.ensures.more);
      whole = word_more (string_bytes c.words.name) (string_bytes c.push_str.new.self) (string_bytes c.push_str-in-words.new.self) c.in-Some-ident.word.now c.in-Some-ident.field-0-1 c.eat.result (remaining c.words.self) (remaining c.eat.new.self) (remaining c.ident-in-words.new.self)
          dot (search rules) c.eat.ensures.behind (sym c.in-Some-ident.ensures.found) c.in-Some-ident.ensures.behind c.in_ok-push_str.ensures.bytes c.in_ok-push_str-2.ensures.bytes
          ∙ c.words.invariant.whole;
    }

pub returns-clause-read : goal.returns-clause-read
returns-clause-read c =
    let e = begins c.in-Some.first.now (string_bytes c.in_ok-name.name) c.in-Some.field-0-1 (remaining c.args.self.now) (remaining c.ident.new.self) (sym c.in-Some.ensures.found) c.in-Some.ensures.behind c.in_ok-name.ensures.ok in
    let dot : sees 46 (remaining c.words.self) ≡ false = search rules in
    e ∙ sym c.words.invariant.whole ∙ all_words (string_bytes c.words.name) c.eat.result (remaining c.words.self) (remaining c.eat.new.self) dot (search rules) c.eat.ensures.behind
