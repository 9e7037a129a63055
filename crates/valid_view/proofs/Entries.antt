-- Entries that are put into a map leave what holds of each, where it holds of them, and of an entry with the value of another.
use Rattle.std.proofs.Common.{List, [], ◌∷◌, Option, None, Some, Ordering, Less, Equal, Greater, sym, subst}
use Rattle.std.specs.BTreeMap.{insert_entry}
use Rattle.std.specs.List.{AllByRecursion}
use Rattle.std.specs.Ordering.{match_ordering}
use Rattle.reflect_scalar.specs.declared.map_key.MapKey.{MapKey}
use Rattle.reflect_extend.specs.Gives.{Entry, GivesOneEntry}
use Rattle.reflect_extend.specs.Puts.{PutsAll, with_given}
use Rattle.reflect_message.specs.Maps.{key_order}
use Rattle.reflect_message.specs.Names.{Value}

module _ (P : Entry → Type 0) (join : (e d : Entry) → P e → P d → P (e.0, d.1)) where
  pub put_each : (es : List Entry) (k : MapKey) (v : Value) → AllByRecursion P es → P (k, v) → AllByRecursion P (insert_entry key_order es k v)
  put_each [] k v all one = (one, tt)
  put_each (e ∷ es) k v all one = by (put_each es k v all.1 one) (key_order k e.0) where
    by : AllByRecursion P (insert_entry key_order es k v) → (o : Ordering) → AllByRecursion P (match_ordering o ((k, v) ∷ e ∷ es) ((e.0, v) ∷ es) (e ∷ insert_entry key_order es k v))
    by later Less = (one, all)
    by later Equal = (join e (k, v) all.0 one, all.1)
    by later Greater = (all.0, later)

  -- of the entries that values give
  abbrev pub Gives : Value → Type 0
  Gives v = (e : Entry) → GivesOneEntry v (Some e) → P e

  one_put : (es : List Entry) (v : Value) (given : Option Entry) → AllByRecursion P es → Gives v → GivesOneEntry v given → AllByRecursion P (with_given es given)
  one_put es v None all holds gives = all
  one_put es v (Some e) all holds gives = put_each es e.0 e.1 all (holds e gives)

  pub puts_each : (before after : List Entry) (vs : List Value) → AllByRecursion P before → AllByRecursion Gives vs → PutsAll before after vs → AllByRecursion P after
  puts_each before after [] all holds h = subst (AllByRecursion P) (sym h) all
  puts_each before after (v ∷ vs) all holds (between, (given, gives, put_so), rest) =
      puts_each between after vs (subst (AllByRecursion P) (sym put_so) (one_put before v given all holds.0 gives)) holds.1 rest
