-- Laws of `part`, and of `over`, `cleared` and `list_of` place by place. Assumes nothing.
use mathlib.Core.Path.{◌≡◌, sym, ap, ◌∙◌}
use mathlib.Core.Logic.{⊎_elim}
use mathlib.Core.List.{List, [], ◌∷◌, ◌++◌}
use Prim.Native.Nat.{ℕ, zero, suc, ◌+◌, ◌-◌, ◌≤◌, ◌<◌}
use native.Mathlib.Omega.{arith}
use lib.ListN.{length, get_or, take, drop, length-take, length-drop, get_or-append}
use lib.Seq.{ext_get_or, get_or-take, get_or-drop, get_or-append-add, get_or_at}
use Rattle.std.proofs.lemmas.List.{take_more}
use Rattle.regions.specs.Region.{over, list_of, part}
use Rattle.regions.proofs.Cases.{below_or_not, same_or_not}
use Rattle.regions.proofs.Fronts.{over_long, list_long}

-- ---- a list of values
pub list_at_lem : {A : Type 0} (f : ℕ → A) (n : ℕ) (d : A) (i : ℕ) → i < n → get_or (list_of f n) i d ≡ f i
unfolding list_of
list_at_lem f zero d i l = absurd (omega arith)
list_at_lem f (suc n) d i l =
    ⊎_elim
    (λ e. get_or_at (list_of f n) (f n) [] d i (list_long f n ∙ sym e) ∙ ap f (sym e))
    (λ e. get_or-append (list_of f n) (f n ∷ []) d i (omega (arith, list_long f n)) ∙ list_at_lem f n d i (omega arith))
    (same_or_not i n)

-- a list is the list of its places
pub list_of_places : {A : Type 0} (d : A) (w : List A) → list_of (λ i. get_or w i d) (length w) ≡ w
list_of_places {A} d w =
    ext_get_or d (list_of (λ i. get_or w i d) (length w)) w (list_long (λ i. get_or w i d) (length w))
    (λ i h. list_at_lem (λ k. get_or w k d) (length w) d i (omega (arith, list_long (λ k. get_or w k d) (length w))))

-- ---- a region as a list
pub part_long : {A : Type 0} (w : List A) (base len : ℕ) → base + len ≤ length w → length (part w base len) ≡ len
unfolding part
part_long w base len h = simp (length-take, length-drop) (omega arith)

pub part_at : {A : Type 0} (w : List A) (base len : ℕ) (d : A) (i : ℕ) → i < len → get_or (part w base len) i d ≡ get_or w (base + i) d
unfolding part
part_at w base len d i l = get_or-take len (drop base w) i d l ∙ get_or-drop base w i d

-- a region with one place more
pub part_more : {A : Type 0} (w : List A) (base i : ℕ) (d : A) → base + i < length w → part w base (i + 1) ≡ part w base i ++ (get_or w (base + i) d ∷ [])
unfolding part
part_more {A} w base i d h =
    take_more (drop base w) i d (omega (arith, length-drop base w))
    ∙ ap (λ (x : A). take i (drop base w) ++ (x ∷ [])) (get_or-drop base w i d)

pub part_list : {A : Type 0} (d : A) (w : List A) (base len : ℕ) → base + len ≤ length w → list_of (λ i. get_or w (base + i) d) len ≡ part w base len
part_list {A} d w base len h =
    let n : length (list_of (λ i. get_or w (base + i) d) len) ≡ len = list_long (λ i. get_or w (base + i) d) len in
    ext_get_or d (list_of (λ i. get_or w (base + i) d) len) (part w base len) (n ∙ sym (part_long w base len h))
    (λ i l. list_at_lem (λ k. get_or w (base + k) d) len d i (omega arith) ∙ sym (part_at w base len d i (omega arith)))

-- a region whose places are f 0, f 1, .. is the list of them
pub part_is : {A : Type 0} (d : A) (w : List A) (base len : ℕ) (f : ℕ → A) → base + len ≤ length w → ((i : ℕ) → i < len → get_or w (base + i) d ≡ f i) → part w base len ≡ list_of f len
part_is {A} d w base len f h e =
    let n : length (list_of f len) ≡ len = list_long f len in
    let p : length (part w base len) ≡ len = part_long w base len h in
    ext_get_or d (part w base len) (list_of f len) (p ∙ sym n)
    (λ i l. part_at w base len d i (omega arith) ∙ e i (omega arith) ∙ sym (list_at_lem f len d i (omega arith)))

-- ---- a list written over the front, place by place
pub over_at : {A : Type 0} (xs w : List A) (d : A) (i : ℕ) → i < length xs → get_or (over xs w) i d ≡ get_or xs i d
unfolding over
over_at xs w d i l = get_or-append xs (drop (length xs) w) d i l

pub over_rest : {A : Type 0} (xs w : List A) (d : A) (j : ℕ) → length xs ≤ j → get_or (over xs w) j d ≡ get_or w j d
unfolding over
over_rest {A} xs w d j l =
    let e : j ≡ length xs + (j - length xs) = omega arith in
    ap (λ (k : ℕ). get_or (over xs w) k d) e
    ∙ get_or-append-add xs (drop (length xs) w) (j - length xs) d
    ∙ get_or-drop (length xs) w (j - length xs) d
    ∙ ap (λ (k : ℕ). get_or w k d) (sym e)

-- what is xs in front and w beyond is xs written over w
pub over_is : {A : Type 0} (d : A) (xs w w' : List A) → length xs ≤ length w → length w' ≡ length w → ((i : ℕ) → i < length xs → get_or w' i d ≡ get_or xs i d) → ((j : ℕ) → length xs ≤ j → get_or w' j d ≡ get_or w j d) → w' ≡ over xs w
over_is d xs w w' h n front rest =
    ext_get_or d w' (over xs w) (n ∙ sym (over_long xs w h))
    (λ i l. ⊎_elim (λ p. front i p ∙ sym (over_at xs w d i p)) (λ p. rest i p ∙ sym (over_rest xs w d i p)) (below_or_not i (length xs)))
