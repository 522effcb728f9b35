-- One pass over the log determines the lock holders at each blocked line, the shortfalls of the charges due, and that
-- each reported cycle is one of waits.

mod Amounts
mod Waiting
