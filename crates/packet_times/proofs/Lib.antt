mod Places
mod ClockCounts
mod ClockDrifts
mod Fields
