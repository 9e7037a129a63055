-- One package more of those that are around a package.
use Rattle.std.proofs.Common.{◌≡◌, ℕ, List, [], ◌∷◌, ◌++◌, length, ap, refl, pos}
use Rattle.reflect_scope.specs.Means.{scopes, outer}
use Rattle.reflect_scope.proofs.Scopes.{scopes_around, scopes_empty}
use Rattle.reflect_scope.specs.Known.{Known, declared}
use Rattle.reflect_known.specs.KnownNames.{packages, package_of}
use Rattle.reflect_names.specs.Names.{Places, package_faults, taken}

pub packages_more : (known : Known) (file : ℕ) (s : List ℕ) → (length s ≡ 0 → ⊥) → packages known file (scopes s) ≡ packages (declared known s (package_of file)) file (scopes (outer s))
packages_more known file [] some = absurd (some refl)
packages_more known file (b ∷ bs) some = ap (packages known file) (scopes_around (b ∷ bs) some)

pub packages_last : (known : Known) (file : ℕ) (s : List ℕ) → length s ≡ 0 → packages known file (scopes s) ≡ known
packages_last known file [] none = ap (packages known file) (scopes_empty [] none)
packages_last known file (b ∷ bs) none = absurd (cc)

pub faults_more : (at : Places) (known : Known) (file : ℕ) (s : List ℕ) → (length s ≡ 0 → ⊥) → package_faults at known file (scopes s) ≡ taken at known [] (pos 2) s (package_of file) ++ package_faults at (declared known s (package_of file)) file (scopes (outer s))
faults_more at known file [] some = absurd (some refl)
faults_more at known file (b ∷ bs) some = ap (package_faults at known file) (scopes_around (b ∷ bs) some)

pub faults_last : (at : Places) (known : Known) (file : ℕ) (s : List ℕ) → length s ≡ 0 → package_faults at known file (scopes s) ≡ []
faults_last at known file [] none = ap (package_faults at known file) (scopes_empty [] none)
faults_last at known file (b ∷ bs) none = absurd (cc)
