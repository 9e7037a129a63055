use Rattle.std.proofs.Common.{rules, true, false}
use Rattle.reflect_tables.specs.Types.{bytes, string}
use Rattle.reflect_any.proofs.Lone.{where_none, lone_missing, lone_found, found_lone}
use Rattle.reflect_any.proofs.any.any_fields.Goals as goal
use Rattle.reflect_any.proofs.any.any_fields.Goals.{else-holds_strings-via-then-holds_strings+then-stands_alone+then-holds_bytes+else-stands_alone-2, else-holds_strings-via-then-holds_strings+then-stands_alone+else-holds_bytes, else-holds_strings-via-then-holds_strings+else-stands_alone, else-holds_strings-via-else-holds_strings}

pub returns-in_err-type_url-clause-other : goal.returns-in_err-type_url-clause-other
returns-in_err-type_url-clause-other c =
    where_none c.from_residual.result _ (λ any. lone_missing c.args.descriptor 1 string c.in_err-type_url.ensures.first any.1)

pub returns-in_err-value-clause-other : goal.returns-in_err-value-clause-other
returns-in_err-value-clause-other c =
    where_none c.from_residual-in_err-value.result _ (λ any. lone_missing c.args.descriptor 2 bytes c.in_err-value.ensures.first any.2)

pub returns-then-stands_alone-2-clause-any : goal.returns-then-stands_alone-2-clause-any
returns-then-stands_alone-2-clause-any c =
    let d = c.args.descriptor in
    let url = c.in_ok-type_url in
    let value = c.in_ok-value in (
      search rules,
      found_lone d 1 string url.type_url url.ensures.message url.ensures.first (c.holds_strings.ensures.string c.if-holds_strings.true) (c.stands_alone.ensures.alone c.if-stands_alone.true),
      found_lone d 2 bytes value.value value.ensures.message value.ensures.first (c.holds_bytes.ensures.bytes c.if-holds_bytes.true) (c.stands_alone-then-holds_bytes.ensures.alone c.if-stands_alone-2.true),
    )

pub returns-else-holds_strings-clause-other : goal.returns-else-holds_strings-clause-other
returns-else-holds_strings-clause-other c any =
    let d = c.args.descriptor in
    let url = lone_found d 1 string c.in_ok-type_url.type_url c.in_ok-type_url.ensures.message c.in_ok-type_url.ensures.first any.1 in
    let value = lone_found d 2 bytes c.in_ok-value.value c.in_ok-value.ensures.message c.in_ok-value.ensures.first any.2 in
    elim c.else-holds_strings.branch [
      | else-holds_strings-via-then-holds_strings+then-stands_alone+then-holds_bytes+else-stands_alone-2 w ↦ absurd (cc (w.if-stands_alone-2.false, w.stands_alone-then-holds_bytes.ensures.other value.1))
      | else-holds_strings-via-then-holds_strings+then-stands_alone+else-holds_bytes w ↦ absurd (cc (w.if-holds_bytes.false, w.holds_bytes.ensures.other value.0))
      | else-holds_strings-via-then-holds_strings+else-stands_alone w ↦ absurd (cc (w.if-stands_alone.false, w.stands_alone.ensures.other url.1))
      | else-holds_strings-via-else-holds_strings w ↦ absurd (cc (w.if-holds_strings.false, c.holds_strings.ensures.other url.0))
    ]
