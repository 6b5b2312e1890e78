-- Document 01, "Supply, demand, least share": the ticks that a resource of period P and budget B supplies over a length t at the least.
-- Non-harmonic form of document 000, equation (1); and its harmonic form, by document 02, No. 13. Assumes nothing.
use Rattle.std.specs.Prelude.{ℕ, ◌+◌, ◌*◌, ◌-◌, ◌/◌, max, cond, ltb}
use Rattle.model.specs.Form.{Form, ordinary, aligned}

-- g = P - B; 0 if t < g; otherwise y = floor((t - g)/P), and y·B + max(0, t - 2g - y·P); ℕ's minus stops at 0 by itself
-- aligned: y = floor(t/P), and y·B + max(0, t - g - y·P) for t ≥ g, else 0
unfoldable pub supply_of : Form → ℕ → ℕ → ℕ → ℕ
supply_of ordinary P B t =
    let g = P - B in
    let y = (t - g) / P in
    cond (ltb t g) 0 (y * B + max 0 (t - 2 * g - y * P))
supply_of aligned P B t =
    let g = P - B in
    let y = t / P in
    cond (ltb t g) 0 (y * B + max 0 (t - g - y * P))
