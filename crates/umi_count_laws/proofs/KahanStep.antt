-- Kahan's step keeps the compensation within three steps of 0, and moves the lane by the value to within five. Assumes nothing.
use mathlib.Core.Path.{◌≡◌}
use Prim.Native.Nat.{ℕ, ◌+◌, ◌*◌, ◌≤◌, ◌<◌}
use native.Mathlib.Nat.{mul-le-mul_right}
use native.Mathlib.Omega.{arith}
use lib.Ieee.{Float}
use Rattle.lane_sums.specs.declared.observation.Sum.{Sum}
use Rattle.lane_sums.specs.Observation.{moved_by}
use Rattle.umi_count_laws.proofs.Places.{Within, Fine, At, unit, base, added, less}

-- A lane and its compensation after n bytes that take off f in all: the lane is within 5 steps for each byte, the compensation within 3 of 0.
pub record Stands (e : ℕ) (s : Sum) (f n : ℕ) : Type 0 where
  pub place : ℕ
  pub lane_at : At e s.lane place
  pub lane_near : Within (5 * (n * e)) (place + f) (base e)
  pub error : ℕ
  pub compensation_at : At e s.compensation error
  pub error_small : Within (3 * e) error (base e)

-- a byte that is no base
pub kept : {e : ℕ} {s : Sum} {f n : ℕ} → Stands e s f n → Stands e s f (n + 1)
kept {e} {s} {f} {n} h = record {
  place = h.place;
  lane_at = h.lane_at;
  lane_near = omega arith;
  error = h.error;
  compensation_at = h.compensation_at;
  error_small = h.error_small;
}

-- the step in numbers: y = u - k, t = v + y, d = t - v, c = d - y, each to within e, with b as the place of 0
module _ (e b u v k y t d c : ℕ) (error : Within (3 * e) k b) (y_near : Within e (y + k) (u + b)) (t_near : Within e (t + b) (v + y)) where
  lane_moved : Within (5 * e) (t + b) (v + u)
  lane_moved = omega arith

  error_moved : Within e (d + v) (t + b) → Within e (c + y) (d + b) → Within (3 * e) c b
  error_moved p q = omega arith

-- the same of all that the lane has fallen
fallen : (e b u v t f g n : ℕ) → Within (5 * e) (t + b) (v + u) → u + g ≡ b → Within (5 * (n * e)) (v + f) b → Within (5 * ((n + 1) * e)) (t + (f + g)) b
fallen e b u v t f g n p i q = omega arith

-- a value g below 0, where the lane stays above -8192
pub stepped : {e : ℕ} → Fine e → {s : Sum} {f n : ℕ} → Stands e s f n → {x : Float} {u g : ℕ} → At e x u → u + g ≡ base e
    → g ≤ 32 * unit e → f + g ≤ 8160 * unit e → n < 255 → Stands e (moved_by x s) (f + g) (n + 1)
unfolding moved_by
stepped {e} fine {s} {f} {n} h {x} {u} {g} p i small room few =
    let some = fine.some in
    let slack : n * e ≤ 254 * e = mul-le-mul_right e (omega arith) in
    let v = h.place in
    let k = h.error in
    let (y, y_at, y_near) = less e fine p h.compensation_at (omega arith) (omega arith) (omega arith) in
    let (t, t_at, t_near) = added e fine {v = v} {w = y} h.lane_at y_at (omega arith) (omega arith) in
    let (d, d_at, d_near) = less e fine {v = t} {w = v} t_at h.lane_at (omega arith) (omega arith) (omega arith) in
    let (c, c_at, c_near) = less e fine {v = d} {w = y} d_at y_at (omega arith) (omega arith) (omega arith) in
    record {
      place = t;
      lane_at = t_at;
      lane_near = fallen e (base e) u v t f g n (lane_moved e (base e) u v k y t d c h.error_small y_near t_near) i h.lane_near;
      error = c;
      compensation_at = c_at;
      error_small = error_moved e (base e) u v k y t d c h.error_small y_near t_near d_near c_near;
    }
