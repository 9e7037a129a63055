-- The set ahead is written where its number is above the least, and then the one before it is ahead.
use Rattle.std.proofs.Common.{◌≡◌, ◌<◌, ◌++◌, ap, sym, ◌∙◌, arith}
use Rattle.reflect_codec.specs.Held.{held}
use Rattle.reflect_wire.specs.Encoding.{records_bytes}
use Rattle.reflect_wire.specs.Views.{records_of, set_view}
use Rattle.reflect_entries.specs.Descends.{sets_left}
use Rattle.reflect_entries.specs.Sets.{records_in, above, up_to}
use Rattle.reflect_entries.proofs.Descends.{last_of, stepped, still_up, still_grouped, none_above, all_up_to, up_to_same, written_more}
use Rattle.reflect_entries.proofs.unknown_records.Descent.put_above.Goals as goal

pub returns-then-number-least-clause-written : goal.returns-then-number-least-clause-written
returns-then-number-least-clause-written c =
    let t = last_of c.above.self.rest (c.in-Some.number, c.in-Some.set) (rw c.in-Some.is at c.above.self.descends) in
    let none = none_above c.above.self.rest c.in-Some.number.now c.in-Some.set.now t c.args.least c.if-number-least.true in
    let here = rw c.in-Some.is at c.above.invariant.written in
    ap (λ l. records_bytes (records_of l) ++ held c.above.out) (sym none) ∙ here

pub returns-then-number-least-clause-rest : goal.returns-then-number-least-clause-rest
returns-then-number-least-clause-rest c =
    let t = last_of c.above.self.rest (c.in-Some.number, c.in-Some.set) (rw c.in-Some.is at c.above.self.descends) in
    let all = all_up_to c.above.self.rest c.in-Some.number.now c.in-Some.set.now t c.args.least c.if-number-least.true in
    let here = rw c.in-Some.is at c.above.invariant.rest in
    ap (λ a. records_in (sets_left c.above.self.rest a)) c.in-Some.is ∙ (sym all ∙ here)

pub invariant_of-self : goal.invariant_of-self
invariant_of-self c =
    let t = last_of c.above.self.rest (c.in-Some.number, c.in-Some.set) (rw c.in-Some.is at c.above.self.descends) in
    let left = stepped c.above.self.rest c.next_back-self.new.self c.next_back-self.result c.next_back-self.ensures.steps in
    record {
      descends = record {
        ascending = rw left.0 (still_up c.above.self.rest c.in-Some.number.now c.in-Some.set.now t);
        grouped = rw left.0 (still_grouped c.above.self.rest c.in-Some.number.now c.in-Some.set.now t);
        whole = left.1;
      };
    }

pub above-preserved : goal.above-preserved
above-preserved c =
    let t = last_of c.above.self.rest (c.in-Some.number, c.in-Some.set) (rw c.in-Some.is at c.above.self.descends) in
    let left = stepped c.above.self.rest c.next_back-self.new.self c.next_back-self.result c.next_back-self.ensures.steps in
    let least = c.args.least in
    let lt : least < c.in-Some.number.now = omega (arith, c.if-number-least.false) in
    let bytes : held c.put_bytes.new.self ≡ records_bytes (set_view c.in-Some.set.now) ++ held c.above.out =
    c.in_ok-put_bytes.ensures ∙ ap (λ l. l ++ held c.above.out) (c.deref.ensures.value ∙ (c.in_ok-write.ensures.ok ∙ ap (λ l. l ++ records_bytes (set_view c.in-Some.set.now)) c.new-records.ensures.items)) in
    let more = written_more c.above.self.rest c.in-Some.number.now c.in-Some.set.now t least lt (held c.above.out) in
    let same = up_to_same c.above.self.rest c.in-Some.number.now c.in-Some.set.now t least lt in
    record {
      written =
          ap (λ es. records_bytes (records_of (above least (records_in es))) ++ held c.put_bytes.new.self) left.0
          ∙ (ap (λ l. records_bytes (records_of (above least (records_in c.above.self.rest))) ++ l) bytes ∙ (more ∙ (rw c.in-Some.is at c.above.invariant.written)));
      rest = ap (λ es. up_to least (records_in es)) left.0 ∙ (sym same ∙ (rw c.in-Some.is at c.above.invariant.rest));
    }
