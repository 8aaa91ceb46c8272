-- What a map between element types leaves alone: lists, rows and places.
use mathlib.Core.Path.{◌≡◌, refl, sym, ◌∙◌, ap}
use mathlib.Core.List.{List, [], ◌∷◌, ◌++◌, map}
use mathlib.Core.Bool.{Bool, true, false, cond}
use Prim.Native.Nat.{ℕ, zero, suc, min}
use lib.ListN.{length, take, drop, get_or, replicate}
use lib.Seq.{slice}
use Rattle.text.specs.declared.Position.{Position}
use Rattle.text.specs.Rows.{Line, line, onto, lines, unlines, row_count, last_row, row_len, row_start, clamp, offset, end_of, spliced}

module _ {A B : Type 0} (f : A → B) where
  pub map-append : (s t : List A) → map f (s ++ t) ≡ map f s ++ map f t
  map-append [] t = refl
  map-append (x ∷ s) t = ap (◌∷◌ (f x)) (map-append s t)

  pub map-take : (n : ℕ) (s : List A) → take n (map f s) ≡ map f (take n s)
  map-take zero s = refl
  map-take (suc n) [] = refl
  map-take (suc n) (x ∷ s) = ap (◌∷◌ (f x)) (map-take n s)

  pub map-drop : (n : ℕ) (s : List A) → drop n (map f s) ≡ map f (drop n s)
  map-drop zero s = refl
  map-drop (suc n) [] = refl
  map-drop (suc n) (x ∷ s) = map-drop n s

  pub map-replicate : (n : ℕ) (x : A) → replicate n (f x) ≡ map f (replicate n x)
  map-replicate zero x = refl
  map-replicate (suc n) x = ap (◌∷◌ (f x)) (map-replicate n x)

  pub map-length : (s : List A) → length (map f s) ≡ length s
  map-length [] = refl
  map-length (x ∷ s) = ap suc (map-length s)

  pub map-get_d : (l : List A) (n : ℕ) (d : A) → get_or (map f l) n (f d) ≡ f (get_or l n d)
  map-get_d [] n d = refl
  map-get_d (r ∷ l) zero d = refl
  map-get_d (r ∷ l) (suc n) d = map-get_d l n d

module _ {A B : Type 0} (f : A → B) where
  abbrev pub map_line : Line A → Line B
  map_line r = line (map f r.body) (map f r.after)

  pub map-slice : (a e : ℕ) (s : List A) → slice a e (map f s) ≡ map f (slice a e s)
  map-slice a e s = rw (map-take f e s, map-drop f a (take e s))

  pub map-spliced : (t : List A) (a e : ℕ) (x : List A) → spliced (map f t) a e (map f x) ≡ map f (spliced t a e x)
  map-spliced t a e x = sym (rw (map-append f (take a t) (x ++ drop e t), map-append f x (drop e t), map-take f a t, map-drop f e t))

  pub map-unlines : (rs : List (Line A)) → unlines (map map_line rs) ≡ map f (unlines rs)
  unfolding unlines
  map-unlines [] = refl
  map-unlines (r ∷ rs) = sym (rw (map-append f r.body (r.after ++ unlines rs), map-append f r.after (unlines rs), map-unlines rs))

  module _ (lf : A → Bool) (lf' : B → Bool) (h : (x : A) → lf' (f x) ≡ lf x) where
    pub map-lines : (t : List A) → lines lf' (map f t) ≡ map map_line (lines lf t)
    unfolding lines onto
    map-lines [] = refl
    map-lines (x ∷ t) = rw (h x, map-lines t) (go (lf x) (lines lf t))
      where
        go : (b : Bool) (l : List (Line A)) → cond b (line [] (f x ∷ []) ∷ map map_line l) (onto (f x) (map map_line l)) ≡ map map_line (cond b (line [] (x ∷ []) ∷ l) (onto x l))
        go true l = refl
        go false [] = refl
        go false (r ∷ rs) = refl

    pub map_last : (t : List A) → last_row lf' (map f t) ≡ last_row lf t
    unfolding last_row row_count
    map_last t = rw (map-lines t, map-length map_line (lines lf t))

    pub map-len : (t : List A) (r : ℕ) → row_len lf' (map f t) r ≡ row_len lf t r
    unfolding row_len
    map-len t r = rw (map-lines t) (ap (λ (l : Line B). length l.body) (map-get_d map_line (lines lf t) r (line [] [])) ∙ map-length f (get_or (lines lf t) r (line [] [])).body)

    pub map-start : (t : List A) (r : ℕ) → row_start lf' (map f t) r ≡ row_start lf t r
    unfolding row_start
    map-start t r = rw (map-lines t, map-take map_line r (lines lf t), map-unlines (take r (lines lf t)), map-length f (unlines (take r (lines lf t))))

    pub map-clamp : (t : List A) (p : Position) → clamp lf' (map f t) p ≡ clamp lf t p
    unfolding clamp
    map-clamp t p = rw (map_last t, map-len t (min p.row.0 (last_row lf t)))

    pub map-offset : (t : List A) (p : Position) → offset lf' (map f t) p ≡ offset lf t p
    unfolding offset
    map-offset t p = rw (map-clamp t p, map-start t (clamp lf t p).row.0)

    pub map-end : (t : List A) → end_of lf' (map f t) ≡ end_of lf t
    unfolding end_of
    map-end t = rw (map_last t, map-len t (last_row lf t))
