use Rattle.std.proofs.Common.{sym, subst}
use Rattle.std.proofs.lemmas.Result.{on_ok_weaker}
use Rattle.reflect_entries.specs.Entries.{IsAscending}
use Rattle.reflect_format.specs.Steps.{StaysExclusive}
use Rattle.reflect_format.proofs.Stepping.{extension_alone}
use Rattle.reflect_format.proofs.target.Target.set.Goals as goal

pub returns-in-Field-clause-exclusive : goal.returns-in-Field-clause-exclusive
returns-in-Field-clause-exclusive c =
    subst (λ t. StaysExclusive t c.args.message.now c.set_field.new.self) (sym c.in-Field.is) c.set_field.ensures.exclusive

pub returns-in-Extension-clause-exclusive : goal.returns-in-Extension-clause-exclusive
returns-in-Extension-clause-exclusive c =
    let said = c.set_extension.ensures in
    let old = c.args.message.now in
    let new = c.set_extension.new.self in
    subst (λ t. StaysExclusive t old new) (sym c.in-Extension.is) (extension_alone old new said.type_stays said.choices said.fields)

pub returns-in-Field-clause-ascending : goal.returns-in-Field-clause-ascending
returns-in-Field-clause-ascending c =
    let said = c.set_field.ensures in
    on_ok_weaker c.set_field.result (λ up old. (up, subst IsAscending (sym said.extensions) old.1)) said.ascending

pub returns-in-Extension-clause-ascending : goal.returns-in-Extension-clause-ascending
returns-in-Extension-clause-ascending c =
    let said = c.set_extension.ensures in
    on_ok_weaker c.set_extension.result (λ h old. (subst IsAscending (sym h.fields) old.0, h.extension.ascending)) said.ok
