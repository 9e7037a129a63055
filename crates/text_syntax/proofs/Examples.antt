-- The definitions compute the worked texts.
use Rattle.std.proofs.Common.{◌≡◌, Some, None, refl}
use Rattle.std.specs.List.{AllByRecursion}
use Rattle.text_syntax.specs.Examples.{read, refused, tree_of}
use Rattle.text_syntax.specs.Syntax.{fields_at, fields_within, message_at, more_at, more_within, text_at}

pub worked : AllByRecursion (λ e. tree_of e.0 ≡ Some e.1) read
unfolding fields_at fields_within message_at more_at more_within text_at
worked = (refl, (refl, (refl, (refl, (refl, tt)))))

pub none : AllByRecursion (λ ts. tree_of ts ≡ None) refused
unfolding fields_at fields_within message_at more_at more_within text_at
none = (refl, (refl, (refl, (refl, (refl, (refl, (refl, (refl, (refl, (refl, tt))))))))))
