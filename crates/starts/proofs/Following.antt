-- Start after start, whatever holds between two of them and whatever they add to. Assumes nothing.
use mathlib.Core.Path.{◌≡◌, refl, sym, ap, ◌∙◌}
use mathlib.Core.Bool.{Bool, true, false, ◌||◌}
use mathlib.Core.List.{List}
use Prim.Native.Nat.{ℕ, zero, suc, ◌+◌, ◌-◌, ◌≤◌, ◌<◌}
use native.Mathlib.Numerals.{add-one}
use native.Mathlib.Omega.{arith}
use lib.Ieee.{Float}
use Rattle.regions.proofs.Fronts.{front_none, front_then}
use Rattle.graph.specs.Edges.{Edge, Graph}
use Rattle.graph.specs.Fronts.{usual_fronts}
use Rattle.hops.specs.Hops.{exceeds, path_limit}
use Rattle.hops.specs.Search.{graph_of}
use Rattle.brandes.specs.Shares.{some_exceeds}
use Rattle.starts.specs.Starts.{Within}

pub within_none : (n m : ℕ) (w c : List ℕ) (f : List Float) → Within n m w c f w c f
within_none n m w c f = record { narrow = front_none w (usual_fronts n m).narrow; wide = front_none c (usual_fronts n m).wide; floats = front_none f (usual_fronts n m).floats }

pub within_then : {n m : ℕ} {w c : List ℕ} {f : List Float} {w' c' : List ℕ} {f' : List Float} {w'' c'' : List ℕ} {f'' : List Float} → Within n m w c f w' c' f' → Within n m w' c' f' w'' c'' f'' → Within n m w c f w'' c'' f''
within_then A B = record { narrow = front_then A.narrow B.narrow; wide = front_then A.wide B.wide; floats = front_then A.floats B.floats }

exceeds_more : (g : Graph) (k : ℕ) (b : Bool) → some_exceeds path_limit g k ≡ false → exceeds path_limit g k ≡ b → some_exceeds path_limit g (k + 1) ≡ b
unfolding some_exceeds
exceeds_more g k b p q = ap (some_exceeds path_limit g) (add-one k) ∙ ap (λ (t : Bool). t || exceeds path_limit g k) p ∙ q

-- once above the limit, the starts together are
exceeds_later : (g : Graph) (k j : ℕ) → some_exceeds path_limit g k ≡ true → some_exceeds path_limit g (k + j) ≡ true
unfolding some_exceeds
exceeds_later g k zero e = let z : k + 0 ≡ k = omega arith in ap (some_exceeds path_limit g) z ∙ e
exceeds_later g k (suc j) e =
    let z : k + suc j ≡ suc (k + j) = omega arith in
    ap (some_exceeds path_limit g) z ∙ ap (λ (t : Bool). t || exceeds path_limit g (k + j)) (exceeds_later g k j e)

-- `Between g w c f` is what holds between two starts of g, and `After g k w f` what has been added by the starts 0 to k - 1.
module _ (Between : Graph → List ℕ → List ℕ → List Float → Type 0) (After : Graph → ℕ → List ℕ → List Float → Type 0) where
  -- the start k adds to what the ones before it have added, or some path count is above the limit
  pub record Adds (n m k : ℕ) (w c : List ℕ) (f : List Float) (w' c' : List ℕ) (f' : List Float) (r : Bool) : Type 0 where
    pub within : Within n m w c f w' c' f'
    pub still : r ≡ false → (directed : Bool) (es : List Edge) → Between (graph_of n directed es) w c f → Between (graph_of n directed es) w' c' f'
    pub adds : r ≡ false → (directed : Bool) (es : List Edge) → Between (graph_of n directed es) w c f → After (graph_of n directed es) k w f → After (graph_of n directed es) (k + 1) w' f'
    pub paths : (directed : Bool) (es : List Edge) → Between (graph_of n directed es) w c f → exceeds path_limit (graph_of n directed es) k ≡ r

  -- the starts 0 to k - 1 have been added, for every graph between whose starts w₀, c₀ and f₀ stood
  pub record Added (n m : ℕ) (w₀ c₀ : List ℕ) (f₀ : List Float) (k : ℕ) (w c : List ℕ) (f : List Float) : Type 0 where
    pub upto : k ≤ n
    pub within : Within n m w₀ c₀ f₀ w c f
    pub still : (directed : Bool) (es : List Edge) → Between (graph_of n directed es) w₀ c₀ f₀ → Between (graph_of n directed es) w c f
    pub added : (directed : Bool) (es : List Edge) → Between (graph_of n directed es) w₀ c₀ f₀ → After (graph_of n directed es) 0 w₀ f₀ → After (graph_of n directed es) k w f
    pub paths : (directed : Bool) (es : List Edge) → Between (graph_of n directed es) w₀ c₀ f₀ → some_exceeds path_limit (graph_of n directed es) k ≡ false

module _ {Between : Graph → List ℕ → List ℕ → List Float → Type 0} {After : Graph → ℕ → List ℕ → List Float → Type 0} where
  pub added_none : (n m : ℕ) (w c : List ℕ) (f : List Float) → Added Between After n m w c f 0 w c f
  unfolding some_exceeds
  added_none n m w c f = record { upto = omega arith; within = within_none n m w c f; still = λ d es S. S; added = λ d es S C. C; paths = λ d es S. refl }

  module _ {n m : ℕ} {w₀ c₀ : List ℕ} {f₀ : List Float} {k : ℕ} {w c : List ℕ} {f : List Float} (A : Added Between After n m w₀ c₀ f₀ k w c f) (l : k < n)
      {w' c' : List ℕ} {f' : List Float} {r : Bool} (P : Adds Between After n m k w c f w' c' f' r) where
    pub added_more : r ≡ false → Added Between After n m w₀ c₀ f₀ (k + 1) w' c' f'
    added_more e =
        record {
          upto = omega arith;
          within = within_then A.within P.within;
          still = λ d es S. P.still e d es (A.still d es S);
          added = λ d es S C. P.adds e d es (A.still d es S) (A.added d es S C);
          paths = λ d es S. exceeds_more (graph_of n d es) k false (A.paths d es S) (P.paths d es (A.still d es S) ∙ e);
        }

    pub added_paths : r ≡ true → (d : Bool) (es : List Edge) → Between (graph_of n d es) w₀ c₀ f₀ → some_exceeds path_limit (graph_of n d es) n ≡ true
    added_paths e d es S =
        let z : k + 1 + (n - (k + 1)) ≡ n = omega arith in
        ap (some_exceeds path_limit (graph_of n d es)) (sym z)
        ∙ exceeds_later (graph_of n d es) (k + 1) (n - (k + 1)) (exceeds_more (graph_of n d es) k true (A.paths d es S) (P.paths d es (A.still d es S) ∙ e))
