-- `put_number`: the number falls at each call. Assumes nothing.
use Rattle.text.proofs.place.+put_number.Given as goal

abbrev pub decreases-put_number : goal.decreases-put_number
decreases-put_number l = l.n
