mod OneAnswer
mod Deques
mod Networks
mod Teams
mod Ends
