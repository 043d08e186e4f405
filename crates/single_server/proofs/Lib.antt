mod OneArena
