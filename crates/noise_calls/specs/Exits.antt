-- What noise and choose leave, for arguments of every content and length: the returned number, each returned value and the
-- work area at exit, equated with what the call's answer gives; the place alone is not equated, but said to be one of the
-- answer's. A primed name is at exit. Rests on the definitions of `kindi`.
use Rattle.std.specs.Prelude.{◌≡◌, cond, List, ℕ, length}
use Rattle.kindi.specs.Params.{of_set, noise_work}
use Rattle.kindi.specs.Calls.{number, returned, Place, work_after, noise_call, choose_call}

-- noise.
pub record NoiseExit (set : ℕ) (sk coins message work : List ℕ) (status clear' largest' : ℕ) (work' : List ℕ) : Type 0 where
  pub number_is : status ≡ number (noise_call set sk coins message (length work))
  pub clear_is : clear' ≡ returned (noise_call set sk coins message (length work)) (λ size. cond size.is_clear 1 0)
  pub largest_is : largest' ≡ returned (noise_call set sk coins message (length work)) (λ size. size.largest)
  pub wiped : work' ≡ work_after set (noise_work (of_set set)) work

-- choose.
pub record ChooseExit (set : ℕ) (sk message list work : List ℕ) (status place' : ℕ) (work' : List ℕ) : Type 0 where
  pub number_is : status ≡ number (choose_call set sk message list (length work))
  pub place_is : Place (choose_call set sk message list (length work)) place'
  pub wiped : work' ≡ work_after set (noise_work (of_set set)) work
