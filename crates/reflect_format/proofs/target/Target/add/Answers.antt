use Rattle.std.proofs.Common.{◌≡◌, true, List, Result, Ok, Err, OnOk, OnErr, sym, subst}
use Rattle.reflect_entries.specs.Entries.{IsAscending}
use Rattle.reflect_pool.specs.Shapes.{holds_list, holds_map}
use Rattle.reflect_pool.specs.declared.field.FieldDescriptor.{FieldDescriptor}
use Rattle.reflect_message.specs.Held.{fields_of, extensions_of, unknown_of}
use Rattle.reflect_message.specs.Lists.{Lengthens, KeepsList}
use Rattle.reflect_message.specs.Names.{DynamicMessage, Value}
use Rattle.reflect_extend.specs.Others.{KeepsOther, StaysUnset}
use Rattle.reflect_extend.specs.Puts.{PutsEntries, PutsSome}
use Rattle.reflect_extend.specs.Siblings.{KeepsRest}
use Rattle.reflect_format.specs.Steps.{AddsValues, AddsPart, ChangesIt, ChangesOnly, Frees, StaysAscending, StaysExclusive, held_by}
use Rattle.reflect_format.specs.Takes.{holds_many, target_pool, target_type}
use Rattle.reflect_format.specs.declared.target.Target.{Target}
use Rattle.reflect_format.specs.declared.target.Target.TheVariants as targets
use Rattle.reflect_format.proofs.target.Target.add.Goals as goal

-- what is added, from what holds of lists and of maps
module _ {T E : Type 0} (t : Target) (vs : List Value) (old new : DynamicMessage) where
  adds : (r : Result T E) → ChangesOnly t old new → (holds_list (target_pool t) (target_type t) ≡ true → OnOk r (Lengthens (held_by old t) (held_by new t) vs))
      → (holds_map (target_pool t) (target_type t) ≡ true → OnOk r (PutsEntries (held_by old t) (held_by new t) vs)) → OnOk r (StaysExclusive t old new) → StaysAscending old new
      → (holds_many t ≡ true → OnOk r (Frees t old new)) → (holds_list (target_pool t) (target_type t) ≡ true → KeepsOther (held_by old t) (held_by new t))
      → OnOk r (AddsValues t vs old new)
  adds (Ok x) only list map exclusive ascending frees other = (only, list, map, exclusive, ascending, frees, other)
  adds (Err e) only list map exclusive ascending frees other = tt

  adds_part : (r : Result T E) → OnErr r (ChangesIt t old new) → (holds_list (target_pool t) (target_type t) ≡ true → OnErr r (KeepsList (held_by old t) (held_by new t)))
      → (holds_map (target_pool t) (target_type t) ≡ true → OnErr r (PutsSome (held_by old t) (held_by new t) vs)) → StaysExclusive t old new → StaysAscending old new
      → (holds_list (target_pool t) (target_type t) ≡ true → KeepsOther (held_by old t) (held_by new t)) → OnErr r (StaysUnset (held_by old t) (held_by new t))
      → OnErr r (AddsPart t vs old new)
  adds_part (Ok x) it list map exclusive ascending other absent = tt
  adds_part (Err e) it list map exclusive ascending other absent = (it, list, map, exclusive, ascending, other, absent)

-- what holds in any case
always : {T E : Type 0} (P : Type 0) (r : Result T E) → P → OnOk r P
always P (Ok x) h = h
always P (Err e) h = tt

always_left : {T E : Type 0} (P : Type 0) (r : Result T E) → P → OnErr r P
always_left P (Ok x) h = tt
always_left P (Err e) h = h

-- a refusal leaves all but the field
leaves_rest : {T E : Type 0} (f : FieldDescriptor) (old new : DynamicMessage) (r : Result T E) → OnErr r (KeepsRest f (fields_of old) (fields_of new)) → extensions_of new ≡ extensions_of old → unknown_of new ≡ unknown_of old
    → OnErr r (ChangesIt (targets.Field f) old new)
leaves_rest f old new (Ok x) rest extensions unknown = tt
leaves_rest f old new (Err e) rest extensions unknown = (rest, extensions, unknown)

pub returns-in-Field-clause-ok : goal.returns-in-Field-clause-ok
returns-in-Field-clause-ok c =
    let t : Target = targets.Field c.in-Field.field in
    let said = c.extend_field.ensures in
    subst (λ u. OnOk c.extend_field.result (AddsValues u c.args.values.items c.args.message.now c.extend_field.new.self)) (sym c.in-Field.is)
    (adds t c.args.values.items c.args.message.now c.extend_field.new.self c.extend_field.result (said.others, said.extensions, said.unknown) said.list said.map (always _ c.extend_field.result said.exclusive)
    (λ old. (said.ascending old.0, subst IsAscending (sym said.extensions) old.1)) said.unset said.other)

pub returns-in-Field-clause-left : goal.returns-in-Field-clause-left
returns-in-Field-clause-left c =
    let t : Target = targets.Field c.in-Field.field in
    let said = c.extend_field.ensures in
    subst (λ u. OnErr c.extend_field.result (AddsPart u c.args.values.items c.args.message.now c.extend_field.new.self)) (sym c.in-Field.is)
    (adds_part t c.args.values.items c.args.message.now c.extend_field.new.self c.extend_field.result (leaves_rest c.in-Field.field c.args.message.now c.extend_field.new.self c.extend_field.result said.rest said.extensions said.unknown) said.left said.part said.exclusive
    (λ old. (said.ascending old.0, subst IsAscending (sym said.extensions) old.1)) said.other said.absent)

pub returns-in-Extension-clause-ok : goal.returns-in-Extension-clause-ok
returns-in-Extension-clause-ok c =
    let t : Target = targets.Extension c.in-Extension.extension in
    let said = c.extend_extension.ensures in
    subst (λ u. OnOk c.extend_extension.result (AddsValues u c.args.values.items c.args.message.now c.extend_extension.new.self)) (sym c.in-Extension.is)
    (adds t c.args.values.items c.args.message.now c.extend_extension.new.self c.extend_extension.result (said.others, said.fields, said.unknown) said.list said.map (always _ c.extend_extension.result said.exclusive)
    (λ old. (subst IsAscending (sym said.fields) old.0, said.ascending old.1)) (λ many. always (Unit {0}) c.extend_extension.result tt) said.other)

pub returns-in-Extension-clause-left : goal.returns-in-Extension-clause-left
returns-in-Extension-clause-left c =
    let t : Target = targets.Extension c.in-Extension.extension in
    let said = c.extend_extension.ensures in
    subst (λ u. OnErr c.extend_extension.result (AddsPart u c.args.values.items c.args.message.now c.extend_extension.new.self)) (sym c.in-Extension.is)
    (adds_part t c.args.values.items c.args.message.now c.extend_extension.new.self c.extend_extension.result (always_left _ c.extend_extension.result (said.others, said.fields, said.unknown)) said.left said.part said.exclusive
    (λ old. (subst IsAscending (sym said.fields) old.0, said.ascending old.1)) said.other said.absent)
