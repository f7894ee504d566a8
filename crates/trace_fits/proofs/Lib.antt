mod Ahead
mod OneWay
