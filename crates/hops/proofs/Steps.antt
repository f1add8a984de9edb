-- A breadth-first search, step by step: each step keeps what `Mid` says. The labels are functions, and a store is told by what it changes.
-- Assumes nothing.
use mathlib.Core.Path.{◌≡◌, refl, sym, ap, ap₂, ◌∙◌, subst}
use mathlib.Core.Logic.{◌≢◌, ◌⊎◌, inl, inr}
use mathlib.Core.Bool.{Bool, true, false, not}
use mathlib.Core.List.Memᴰ
use mathlib.Core.List.{List, [], ◌∷◌, ◌++◌, append_assoc, Memᴰ}
use Prim.Native.Nat.{ℕ, ◌+◌, ◌*◌, ◌≤◌, ◌<◌}
use native.Mathlib.Nat.{mul-zero, one-mul}
use native.Mathlib.Omega.{arith}
use lib.Dec.{eqb}
use lib.ListN.{length, length-append}
use Rattle.graph.specs.Edges.{Graph, entries}
use Rattle.hops.specs.Sum.{sum_over, below, same, only_if, times}
use Rattle.hops.specs.Hops.{Valid, unreached}
use Rattle.hops.specs.Search.{share, Sorted, has, Led, Comes, Ways, Mid}
use Rattle.hops.proofs.Sums.{eq_or_ne, eqb_yes, eqb_no, same_yes, same_no, sum_zero, sum_cong_mem, sum_append, sum_times, below_cong, mem_times, times_mem, times_none, times_snoc, not_long, short}
use Rattle.hops.proofs.Walks.{entry_lt}
use Rattle.hops.proofs.Labels.{Labels}

pub share_yes : (dw dv cw m : ℕ) → dw + 1 ≡ dv → share dw dv cw m ≡ cw * m
unfolding share
share_yes dw dv cw m p = ap (λ (t : Bool). only_if t (cw * m)) (eqb_yes p)

pub share_no : (dw dv cw m : ℕ) → dw + 1 ≢ dv → share dw dv cw m ≡ 0
unfolding share
share_no dw dv cw m q = ap (λ (t : Bool). only_if t (cw * m)) (eqb_no q)

pub share_none : (dw dv cw m : ℕ) → m ≡ 0 → share dw dv cw m ≡ 0
unfolding share
share_none dw dv cw m e = go (eqb (dw + 1) dv)
  where
    go : (t : Bool) → only_if t (cw * m) ≡ 0
    go true = ap (λ (x : ℕ). cw * x) e ∙ mul-zero cw
    go false = refl

-- a store at x, as the numbers below n show it
pub record Put (n : ℕ) (f f' : ℕ → ℕ) (x y : ℕ) : Type 0 where
  pub at : f' x ≡ y
  pub off : (v : ℕ) → v < n → v ≢ x → f' v ≡ f v

pub has_yes : {v : ℕ} → v ≢ unreached → has v ≡ 1
has_yes q = ap (λ (t : Bool). only_if (not t) 1) (eqb_no q)

pub has_no : {v : ℕ} → v ≡ unreached → has v ≡ 0
has_no p = ap (λ (t : Bool). only_if (not t) 1) (eqb_yes p)

pub has_le : (v : ℕ) → has v ≤ 1
has_le v = go (eq_or_ne v unreached)
  where
    go : (v ≡ unreached) ⊎ (v ≢ unreached) → has v ≤ 1
    go (inl p) = omega (arith, has_no p)
    go (inr q) = omega (arith, has_yes q)

snoc_other : (xs : List ℕ) (x v : ℕ) → v ≢ x → times v (xs ++ (x ∷ [])) ≡ times v xs
snoc_other xs x v n = omega (arith, times_snoc xs x v, same_no {x = x} {y = v} (λ e. n (sym e)))

snoc_self : (xs : List ℕ) (x : ℕ) → times x (xs ++ (x ∷ [])) ≡ times x xs + 1
snoc_self xs x = omega (arith, times_snoc xs x x, same_yes {x = x} {y = x} refl)

sorted_snoc : (d d' : ℕ → ℕ) (xs : List ℕ) (x : ℕ) → ((w : ℕ) → Memᴰ w xs → d' w ≡ d w) → ((w : ℕ) → Memᴰ w xs → d' w ≤ d' x) → Sorted d xs → Sorted d' (xs ++ (x ∷ []))
sorted_snoc d d' [] x k h o = (λ y m. absurd (Memᴰ.not-nil m), tt)
sorted_snoc d d' (z ∷ xs) x k h o = (first, sorted_snoc d d' xs x (λ w m. k w (Memᴰ.tail m)) (λ w m. h w (Memᴰ.tail m)) o.1)
  where
    first : (y : ℕ) → Memᴰ y (xs ++ (x ∷ [])) → d' z ≤ d' y
    first y m = go (Memᴰ.append_cases xs m)
      where
        go : Memᴰ y xs ⊎ Memᴰ y (x ∷ []) → d' z ≤ d' y
        go (inl n) = omega (arith, k z (Memᴰ.head refl), k y (Memᴰ.tail n), o.0 y n)
        go (inr n) = omega (arith, h z (Memᴰ.head refl), ap d' (Memᴰ.eq_of_singleton n))

module _ {g : Graph} {s : ℕ} {d c : ℕ → ℕ} {done : List ℕ} {u : ℕ} {seen rest : List ℕ} (M : Mid g s d c done u seen rest) where
  -- what stands in the queue has a label
  pub labelled : (w : ℕ) → Memᴰ w (done ++ (u ∷ rest)) → d w ≢ unreached
  labelled w m e = omega (arith, mem_times (done ++ (u ∷ rest)) w m, M.once w (M.nodes w m), has_no e)

  pub queued : (v : ℕ) → v < g.nodes → d v ≢ unreached → Memᴰ v (done ++ (u ∷ rest))
  queued v hv q = times_mem (done ++ (u ∷ rest)) v (omega (arith, M.once v hv, has_yes q))

  pub u_in : Memᴰ u (done ++ (u ∷ rest))
  u_in = Memᴰ.append_right done (Memᴰ.head refl)

  done_in : (w : ℕ) → Memᴰ w done → Memᴰ w (done ++ (u ∷ rest))
  done_in w m = Memᴰ.append_left (u ∷ rest) m

  rest_in : (w : ℕ) → Memᴰ w rest → Memᴰ w (done ++ (u ∷ rest))
  rest_in w m = Memᴰ.append_right done (Memᴰ.tail m)

  -- no label is more than one above that of u
  pub all_near : (v : ℕ) → v < g.nodes → d v ≢ unreached → d v ≤ d u + 1
  all_near v hv q = go (Memᴰ.append_cases done (queued v hv q))
    where
      go : Memᴰ v done ⊎ Memᴰ v (u ∷ rest) → d v ≤ d u + 1
      go (inl m) = omega (arith, M.earlier v m)
      go (inr m) = pick (Memᴰ.cases_cons m)
        where
          pick : (v ≡ u) ⊎ Memᴰ v rest → d v ≤ d u + 1
          pick (inl e) = omega (arith, ap d e)
          pick (inr n) = (M.later v n).1

  -- while a node has no label the queue is shorter than the number of nodes
  pub room : (x : ℕ) → x < g.nodes → d x ≡ unreached → length (done ++ (u ∷ rest)) < g.nodes
  room x hx e = short g.nodes (done ++ (u ∷ rest)) M.nodes (λ v hv. omega (arith, M.once v hv, has_le (d v))) x hx (M.once x hx ∙ has_no e)

  going_snoc : (x : ℕ) → Led d u x → (y : ℕ) → Memᴰ y (seen ++ (x ∷ [])) → Led d u y
  going_snoc x l y m = go (Memᴰ.append_cases seen m)
    where
      go : Memᴰ y seen ⊎ Memᴰ y (x ∷ []) → Led d u y
      go (inl n) = M.going y n
      go (inr n) = subst (λ (z : ℕ). Led d u z) (sym (Memᴰ.eq_of_singleton n)) l

  -- an entry that has a label, and is not one hop further: nothing to do
  pub skip : (x : ℕ) → x < g.nodes → d x ≢ unreached → d x ≢ d u + 1 → Mid g s d c done u (seen ++ (x ∷ [])) rest
  skip x hx q far =
      record {
        start = M.start;
        nodes = M.nodes;
        once = M.once;
        near = M.near;
        earlier = M.earlier;
        later = M.later;
        sorted = M.sorted;
        comes = M.comes;
        goes = M.goes;
        going = going_snoc x (q, all_near x hx q);
        ways = λ v hv l. M.ways v hv l ∙ ap (λ (t : ℕ). same s v + (sum_over done (λ w. share (d w) (d v) (c w) (times v (entries g w))) + t)) (last v (eq_or_ne v x));
        no_ways = M.no_ways;
      }
    where
      last : (v : ℕ) → (v ≡ x) ⊎ (v ≢ x) → share (d u) (d v) (c u) (times v seen) ≡ share (d u) (d v) (c u) (times v (seen ++ (x ∷ [])))
      last v (inl e) = share_no (d u) (d v) _ _ (λ p. far (sym (p ∙ ap d e))) ∙ sym (share_no (d u) (d v) _ _ (λ p. far (sym (p ∙ ap d e))))
      last v (inr n) = ap (share (d u) (d v) (c u)) (sym (snoc_other seen x v n))

  -- an entry one hop further that has a label: its ways grow by those of u
  pub add : (c' : ℕ → ℕ) (x : ℕ) → x < g.nodes → d x ≢ unreached → d x ≡ d u + 1 → Put g.nodes c c' x (c x + c u) → Mid g s d c' done u (seen ++ (x ∷ [])) rest
  add c' x hx q next P =
      record {
        start = M.start;
        nodes = M.nodes;
        once = M.once;
        near = M.near;
        earlier = M.earlier;
        later = M.later;
        sorted = M.sorted;
        comes = M.comes;
        goes = M.goes;
        going = going_snoc x (q, all_near x hx q);
        ways = λ v hv l. ways' v hv l (eq_or_ne v x);
        no_ways = λ v hv e. P.off v hv (λ p. q (ap d (sym p) ∙ e)) ∙ M.no_ways v hv e;
      }
    where
      at_u : c' u ≡ c u
      at_u = P.off u (M.nodes u u_in) (λ e. omega (arith, ap d e))

      sums : (v : ℕ) → sum_over done (λ w. share (d w) (d v) (c' w) (times v (entries g w))) ≡ sum_over done (λ w. share (d w) (d v) (c w) (times v (entries g w)))
      sums v = sum_cong_mem done (λ w m. ap (λ (t : ℕ). share (d w) (d v) t (times v (entries g w))) (P.off w (M.nodes w (done_in w m)) (λ e. omega (arith, ap d e, M.earlier w m))))

      at_x : Ways g s d c' done u (seen ++ (x ∷ [])) x
      at_x =
          let old : share (d u) (d x) (c u) (times x seen) ≡ c u * times x seen = share_yes (d u) (d x) _ _ (sym next) in
          let new : share (d u) (d x) (c' u) (times x (seen ++ (x ∷ []))) ≡ c u * (times x seen + 1) = share_yes (d u) (d x) _ _ (sym next) ∙ ap₂ ◌*◌ at_u (snoc_self seen x) in
          omega (arith, P.at, M.ways x hx q, sums x, old, new)

      ways' : (v : ℕ) → v < g.nodes → d v ≢ unreached → (v ≡ x) ⊎ (v ≢ x) → Ways g s d c' done u (seen ++ (x ∷ [])) v
      ways' v hv l (inl e) = subst (λ (z : ℕ). Ways g s d c' done u (seen ++ (x ∷ [])) z) (sym e) at_x
      ways' v hv l (inr n) =
          let new : share (d u) (d v) (c' u) (times v (seen ++ (x ∷ []))) ≡ share (d u) (d v) (c u) (times v seen) = ap₂ (share (d u) (d v)) at_u (snoc_other seen x v n) in
          omega (arith, P.off v hv n, M.ways v hv l, sums v, new)

  -- an entry with no label: it gets one, and the ways of u, and goes to the end of the queue
  pub new : Valid g → s < g.nodes → ((y : ℕ) → Memᴰ y seen → y < g.nodes) → (d' c' : ℕ → ℕ) (x : ℕ) → x < g.nodes → Memᴰ x (entries g u) → d x ≡ unreached → Put g.nodes d d' x (d u + 1) → Put g.nodes c c' x (c u)
      → Mid g s d' c' done u (seen ++ (x ∷ [])) (rest ++ (x ∷ []))
  new ok hs seen_in d' c' x hx ex e D C =
      record {
        start = D.off s hs s_not ∙ M.start;
        nodes = λ w m. nodes' w (Memᴰ.append_cases (done ++ (u ∷ rest)) (subst (λ (l : List ℕ). Memᴰ w l) longer m));
        once = λ v hv. ap (times v) longer ∙ once' v hv (eq_or_ne v x);
        near = λ v hv l. subst (λ (t : ℕ). d' v < t) (sym (ap length longer ∙ length-append (done ++ (u ∷ rest)) (x ∷ []))) (near' v hv l (eq_or_ne v x));
        earlier = λ w m. omega (arith, keep w (done_in w m), keep u u_in, M.earlier w m);
        later = λ w m. later' w (Memᴰ.append_cases rest m);
        sorted = sorted_snoc d d' rest x (λ w m. keep w (rest_in w m)) (λ w m. omega (arith, keep w (rest_in w m), D.at, (M.later w m).1)) M.sorted;
        comes = λ v hv n l. comes' v hv n l (eq_or_ne v x);
        goes = λ w m y k. led' w (keep w (done_in w m)) y (entry_lt g ok.inside w y k) (M.goes w m y k);
        going = λ y m. going' y (Memᴰ.append_cases seen m);
        ways = λ v hv l. ways' v hv l (eq_or_ne v x);
        no_ways = λ v hv z. C.off v hv (v_not v z) ∙ M.no_ways v hv (sym (D.off v hv (v_not v z)) ∙ z);
      }
    where
      longer : done ++ (u ∷ (rest ++ (x ∷ []))) ≡ (done ++ (u ∷ rest)) ++ (x ∷ [])
      longer = sym (append_assoc done (u ∷ rest) (x ∷ []))

      -- the new label is a label
      small : d u + 1 < unreached
      small = omega (arith, room x hx e, M.near u (M.nodes u u_in) (labelled u u_in), ok.few)

      s_not : s ≢ x
      s_not p = omega (arith, M.start, ap d p, e)

      v_not : (v : ℕ) → d' v ≡ unreached → v ≢ x
      v_not v z p = omega (arith, ap d' p, D.at, small)

      keep : (w : ℕ) → Memᴰ w (done ++ (u ∷ rest)) → d' w ≡ d w
      keep w m = D.off w (M.nodes w m) (λ p. labelled w m (ap d p ∙ e))

      keep_c : (w : ℕ) → Memᴰ w (done ++ (u ∷ rest)) → c' w ≡ c w
      keep_c w m = C.off w (M.nodes w m) (λ p. labelled w m (ap d p ∙ e))

      has_label : (y : ℕ) → y < g.nodes → d y ≢ unreached → d' y ≡ d y
      has_label y hy l = D.off y hy (λ p. l (ap d p ∙ e))

      led' : (w : ℕ) → d' w ≡ d w → (y : ℕ) → y < g.nodes → Led d w y → Led d' w y
      led' w k y hy l = (λ z. l.0 (sym (has_label y hy l.0) ∙ z), omega (arith, k, has_label y hy l.0, l.1))

      x_led : Led d' u x
      x_led = (λ z. omega (arith, D.at, small), omega (arith, D.at, keep u u_in))

      going' : (y : ℕ) → Memᴰ y seen ⊎ Memᴰ y (x ∷ []) → Led d' u y
      going' y (inl m) = led' u (keep u u_in) y (seen_in y m) (M.going y m)
      going' y (inr m) = subst (λ (z : ℕ). Led d' u z) (sym (Memᴰ.eq_of_singleton m)) x_led

      nodes' : (w : ℕ) → Memᴰ w (done ++ (u ∷ rest)) ⊎ Memᴰ w (x ∷ []) → w < g.nodes
      nodes' w (inl m) = M.nodes w m
      nodes' w (inr m) = omega (arith, Memᴰ.eq_of_singleton m)

      once' : (v : ℕ) → v < g.nodes → (v ≡ x) ⊎ (v ≢ x) → times v ((done ++ (u ∷ rest)) ++ (x ∷ [])) ≡ has (d' v)
      once' v hv (inl p) = subst (λ (z : ℕ). times z ((done ++ (u ∷ rest)) ++ (x ∷ [])) ≡ has (d' z)) (sym p) (snoc_self (done ++ (u ∷ rest)) x ∙ omega (arith, M.once x hx, has_no e, has_yes {v = d' x} x_led.0))
      once' v hv (inr n) = snoc_other (done ++ (u ∷ rest)) x v n ∙ M.once v hv ∙ ap has (sym (D.off v hv n))

      near' : (v : ℕ) → v < g.nodes → d' v ≢ unreached → (v ≡ x) ⊎ (v ≢ x) → d' v < length (done ++ (u ∷ rest)) + 1
      near' v hv l (inl p) = omega (arith, ap d' p, D.at, M.near u (M.nodes u u_in) (labelled u u_in))
      near' v hv l (inr n) = omega (arith, D.off v hv n, M.near v hv (λ z. l (D.off v hv n ∙ z)))

      later' : (w : ℕ) → Memᴰ w rest ⊎ Memᴰ w (x ∷ []) → (d' u ≤ d' w) × (d' w ≤ d' u + 1)
      later' w (inl m) = omega (arith, keep u u_in, keep w (rest_in w m), M.later w m)
      later' w (inr m) = omega (arith, keep u u_in, ap d' (Memᴰ.eq_of_singleton m), D.at)

      comes' : (v : ℕ) → v < g.nodes → v ≢ s → d' v ≢ unreached → (v ≡ x) ⊎ (v ≢ x) → Comes g d' v
      comes' v hv n l (inl p) = subst (λ (z : ℕ). Comes g d' z) (sym p) (u, M.nodes u u_in, λ z. labelled u u_in (sym (keep u u_in) ∙ z), omega (arith, keep u u_in, D.at), ex)
      comes' v hv n l (inr q) =
          let r = M.comes v hv n (λ z. l (D.off v hv q ∙ z)) in
          (r.0, r.1, λ z. r.2 (sym (has_label r.0 r.1 r.2) ∙ z), omega (arith, has_label r.0 r.1 r.2, D.off v hv q, r.3), r.4)

      at_x : Ways g s d' c' done u (seen ++ (x ∷ [])) x
      at_x =
          let none_done : sum_over done (λ w. share (d' w) (d' x) (c' w) (times x (entries g w))) ≡ 0 = sum_cong_mem done (λ w m. share_none _ _ _ _ (times_none (entries g w) x (λ k. (M.goes w m x k).0 e))) ∙ sum_zero done in
          let one : times x (seen ++ (x ∷ [])) ≡ 1 = omega (arith, snoc_self seen x, times_none seen x (λ k. (M.going x k).0 e)) in
          let last : share (d' u) (d' x) (c' u) (times x (seen ++ (x ∷ []))) ≡ c u * 1 = share_yes (d' u) (d' x) _ _ (omega (arith, keep u u_in, D.at)) ∙ ap₂ ◌*◌ (keep_c u u_in) one in
          omega (arith, C.at, same_no s_not, none_done, last)

      ways' : (v : ℕ) → v < g.nodes → d' v ≢ unreached → (v ≡ x) ⊎ (v ≢ x) → Ways g s d' c' done u (seen ++ (x ∷ [])) v
      ways' v hv l (inl p) = subst (λ (z : ℕ). Ways g s d' c' done u (seen ++ (x ∷ [])) z) (sym p) at_x
      ways' v hv l (inr n) =
          let sums : sum_over done (λ w. share (d' w) (d' v) (c' w) (times v (entries g w))) ≡ sum_over done (λ w. share (d w) (d v) (c w) (times v (entries g w))) = sum_cong_mem done (λ w m. cc (keep w (done_in w m), D.off v hv n, keep_c w (done_in w m))) in
          let last : share (d' u) (d' v) (c' u) (times v (seen ++ (x ∷ []))) ≡ share (d u) (d v) (c u) (times v seen) = cc (keep u u_in, D.off v hv n, keep_c u u_in, snoc_other seen x v n) in
          omega (arith, C.off v hv n, M.ways v hv (λ z. l (D.off v hv n ∙ z)), sums, last)

-- the entries of u are all seen, and u' is next in the queue
pub next : {g : Graph} {s : ℕ} {d c : ℕ → ℕ} {done : List ℕ} {u u' : ℕ} {rest : List ℕ} → Mid g s d c done u (entries g u) (u' ∷ rest) → Mid g s d c (done ++ (u ∷ [])) u' [] rest
unfolding sum_over
next {g} {s} {d} {c} {done} {u} {u'} {rest} M =
    record {
      start = M.start;
      nodes = λ w m. M.nodes w (subst (λ (l : List ℕ). Memᴰ w l) queue m);
      once = λ v hv. ap (times v) queue ∙ M.once v hv;
      near = λ v hv l. subst (λ (q : List ℕ). d v < length q) (sym queue) (M.near v hv l);
      earlier = λ w m. earlier' w (Memᴰ.append_cases done m);
      later = λ w m. omega (arith, M.sorted.0 w m, M.later w (Memᴰ.tail m), up);
      sorted = M.sorted.1;
      comes = M.comes;
      goes = λ w m. goes' w (Memᴰ.append_cases done m);
      going = λ y m. absurd (Memᴰ.not-nil m);
      ways = λ v hv l. ways' v hv l;
      no_ways = M.no_ways;
    }
  where
    queue : (done ++ (u ∷ [])) ++ (u' ∷ rest) ≡ done ++ (u ∷ (u' ∷ rest))
    queue = append_assoc done (u ∷ []) (u' ∷ rest)

    up : d u ≤ d u'
    up = (M.later u' (Memᴰ.head refl)).0

    earlier' : (w : ℕ) → Memᴰ w done ⊎ Memᴰ w (u ∷ []) → d w ≤ d u'
    earlier' w (inl m) = omega (arith, M.earlier w m, up)
    earlier' w (inr m) = omega (arith, ap d (Memᴰ.eq_of_singleton m), up)

    goes' : (w : ℕ) → Memᴰ w done ⊎ Memᴰ w (u ∷ []) → (y : ℕ) → Memᴰ y (entries g w) → Led d w y
    goes' w (inl m) = M.goes w m
    goes' w (inr m) = subst (λ (z : ℕ). (y : ℕ) → Memᴰ y (entries g z) → Led d z y) (sym (Memᴰ.eq_of_singleton m)) M.going

    ways' : (v : ℕ) → v < g.nodes → d v ≢ unreached → Ways g s d c (done ++ (u ∷ [])) u' [] v
    ways' v hv l =
        let f : ℕ → ℕ = λ w. share (d w) (d v) (c w) (times v (entries g w)) in
        omega (arith, M.ways v hv l, sum_append done (u ∷ []) f, share_none (d u') (d v) (c u') 0 refl)

-- the queue holds s alone
pub begin : (g : Graph) (s : ℕ) (d c : ℕ → ℕ) → s < g.nodes → d s ≡ 0 → c s ≡ 1 → ((v : ℕ) → v < g.nodes → v ≢ s → d v ≡ unreached) → ((v : ℕ) → v < g.nodes → v ≢ s → c v ≡ 0)
    → Mid g s d c [] s [] []
unfolding sum_over
begin g s d c hs ds cs dv cv =
    record {
      start = ds;
      nodes = λ w m. omega (arith, Memᴰ.eq_of_singleton m);
      once = λ v hv. once' v hv (eq_or_ne v s);
      near = λ v hv l. omega (arith, ap d (is_s v hv l), ds);
      earlier = λ w m. absurd (Memᴰ.not-nil m);
      later = λ w m. absurd (Memᴰ.not-nil m);
      sorted = tt;
      comes = λ v hv n l. absurd (l (dv v hv n));
      goes = λ w m. absurd (Memᴰ.not-nil m);
      going = λ y m. absurd (Memᴰ.not-nil m);
      ways = λ v hv l. omega (arith, ap c (is_s v hv l), cs, same_yes (sym (is_s v hv l)), share_none (d s) (d v) (c s) 0 refl);
      no_ways = λ v hv e. cv v hv (λ p. omega (arith, ap d p, ds));
    }
  where
    is_s : (v : ℕ) → v < g.nodes → d v ≢ unreached → v ≡ s
    is_s v hv l = go (eq_or_ne v s)
      where
        go : (v ≡ s) ⊎ (v ≢ s) → v ≡ s
        go (inl p) = p
        go (inr n) = absurd (l (dv v hv n))

    once' : (v : ℕ) → v < g.nodes → (v ≡ s) ⊎ (v ≢ s) → same s v + 0 ≡ has (d v)
    once' v hv (inl p) = omega (arith, same_yes (sym p), has_yes {v = d v} (λ z. omega (arith, ap d p, ds)))
    once' v hv (inr n) = omega (arith, same_no {x = s} {y = v} (λ p. n (sym p)), has_no (dv v hv n))

-- the last node of the queue is done: the labels are those of a search
pub finish : {g : Graph} {s : ℕ} {d c : ℕ → ℕ} {done : List ℕ} {u : ℕ} → Valid g → s < g.nodes → Mid g s d c done u (entries g u) [] → Labels g s d c
unfolding sum_over
finish {g} {s} {d} {c} {done} {u} ok hs M =
    record {
      start = M.start;
      start_count = one_way;
      comes = M.comes;
      goes = λ w v hw l m. goes' w v m (Memᴰ.append_cases done (queued M w hw l));
      ways = λ v hv n l. ways' v hv n l;
      no_ways = M.no_ways;
    }
  where
    -- nothing is one hop nearer than s
    nearer : (w m : ℕ) → share (d w) (d s) (c w) m ≡ 0
    nearer w m = share_no (d w) (d s) (c w) m (λ p. omega (arith, M.start))

    one_way : c s ≡ 1
    one_way =
        let none : sum_over done (λ w. share (d w) (d s) (c w) (times s (entries g w))) ≡ 0 = sum_cong_mem done (λ w m. nearer w (times s (entries g w))) ∙ sum_zero done in
        omega (arith, M.ways s hs (λ z. omega (arith, M.start)), same_yes {x = s} {y = s} refl, none, nearer u (times s (entries g u)))

    goes' : (w v : ℕ) → Memᴰ v (entries g w) → Memᴰ w done ⊎ Memᴰ w (u ∷ []) → Led d w v
    goes' w v k (inl m) = M.goes w m v k
    goes' w v k (inr m) = subst (λ (z : ℕ). Memᴰ v (entries g z) → Led d z v) (sym (Memᴰ.eq_of_singleton m)) (M.going v) k

    whole : length (done ++ (u ∷ [])) ≤ g.nodes
    whole = not_long g.nodes (done ++ (u ∷ [])) M.nodes (λ v hv. omega (arith, M.once v hv, has_le (d v)))

    ways' : (v : ℕ) → v < g.nodes → v ≢ s → d v ≢ unreached → c v ≡ sum_over (below g.nodes) (λ w. share (d w) (d v) (c w) (times v (entries g w)))
    ways' v hv n l = over ∙ sum_times g.nodes (done ++ (u ∷ [])) f M.nodes ∙ below_cong g.nodes (λ w hw. ap (λ (t : ℕ). t * f w) (M.once w hw) ∙ own w (eq_or_ne (d w) unreached))
      where
        f : ℕ → ℕ
        f w = share (d w) (d v) (c w) (times v (entries g w))

        over : c v ≡ sum_over (done ++ (u ∷ [])) f
        over = omega (arith, M.ways v hv l, same_no {x = s} {y = v} (λ p. n (sym p)), sum_append done (u ∷ []) f)

        own : (w : ℕ) → (d w ≡ unreached) ⊎ (d w ≢ unreached) → has (d w) * f w ≡ f w
        own w (inl e) =
            let z : f w ≡ 0 = share_no (d w) (d v) _ _ (λ p. omega (arith, M.near v hv l, whole, ok.few)) in
            ap (λ (t : ℕ). has (d w) * t) z ∙ mul-zero _ ∙ sym z
        own w (inr q) = ap (λ (t : ℕ). t * f w) (has_yes q) ∙ one-mul (f w)
