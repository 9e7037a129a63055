-- The names of files at places.
use Rattle.std.proofs.Common.{◌≡◌, ℕ, List, [], ◌∷◌, map, ap, sym, ◌∙◌, refl}
use Rattle.std.proofs.Math.ListN.{get_or-map}
use Rattle.reflect_tables.specs.Types.{FileType, PoolType}
use Rattle.reflect_pool.specs.Imports.{name_at}
use Rattle.reflect_pool.specs.PlacesLeft.{places_in}
use Rattle.reflect_link.specs.FileTypes.{file_in, no_file}

abbrev name_in : PoolType × ℕ → List ℕ
name_in f = (file_in f).name

pub names_there : (p : PoolType) (places : List ℕ) → map name_in (places_in p places) ≡ map (name_at p) places
names_there p [] = refl
names_there p (i ∷ places) =
    let name = λ (f : FileType). f.name in
    ap (λ t. t ∷ map name_in (places_in p places)) (sym (get_or-map name p.files i no_file)) ∙ ap (λ ts. name_at p i ∷ ts) (names_there p places)
