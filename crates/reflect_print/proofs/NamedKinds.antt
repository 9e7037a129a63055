-- Kinds, and what they name.
use Rattle.std.proofs.Common.{◌≡◌, ap, sym, ◌∙◌, None, Option, Some, Bor}
use Rattle.std.specs.Option.{option_copied}
use Rattle.reflect_tables.specs.Types.{PoolType, KindType, message, enumeration}
use Rattle.reflect_pool.specs.Kinds.{IsKind}
use Rattle.reflect_pool.specs.declared.kind.Kind.{Kind}
use Rattle.reflect_pool.specs.declared.kind.Kind.TheVariants as kinds
use Rattle.reflect_print.specs.Named.{named, kind_given, kind_held, kind_view}

-- a public kind names what the kind does that it says
pub kind_named : (pool : PoolType) (k : Kind) (t : KindType) → IsKind pool k t → kind_view k ≡ named pool t
kind_named pool kinds.Double t e = sym (ap (named pool) e)
kind_named pool kinds.Float t e = sym (ap (named pool) e)
kind_named pool kinds.Int32 t e = sym (ap (named pool) e)
kind_named pool kinds.Int64 t e = sym (ap (named pool) e)
kind_named pool kinds.Uint32 t e = sym (ap (named pool) e)
kind_named pool kinds.Uint64 t e = sym (ap (named pool) e)
kind_named pool kinds.Sint32 t e = sym (ap (named pool) e)
kind_named pool kinds.Sint64 t e = sym (ap (named pool) e)
kind_named pool kinds.Fixed32 t e = sym (ap (named pool) e)
kind_named pool kinds.Fixed64 t e = sym (ap (named pool) e)
kind_named pool kinds.Sfixed32 t e = sym (ap (named pool) e)
kind_named pool kinds.Sfixed64 t e = sym (ap (named pool) e)
kind_named pool kinds.Bool t e = sym (ap (named pool) e)
kind_named pool kinds.String t e = sym (ap (named pool) e)
kind_named pool kinds.Bytes t e = sym (ap (named pool) e)
kind_named pool (kinds.Message d) t (p, e) = ap (λ (q : PoolType). Some (q, message d.index)) p ∙ sym (ap (named pool) e)
kind_named pool (kinds.Enum d) t (p, e) = ap (λ (q : PoolType). Some (q, enumeration d.index)) p ∙ sym (ap (named pool) e)

-- a kind that is lent
pub given_held : (r : Option (Bor Kind)) (o : Option Kind) → option_copied r ≡ o → kind_given r ≡ kind_held o
given_held None o e = ap kind_held e
given_held (Some k) o e = ap kind_held e
